use Rattle.std.proofs.Common.{◌≡◌, ◌∙◌, ap, string_bytes, List, ℕ, ◌∷◌, [], codes}
use Rattle.std.proofs.lemmas.Result.{IfOk-weaker}
use Rattle.kmipa_runs.specs.Lines.{line}
use Rattle.kmipa_telling.specs.Causes.{answered_text, asked_text, failed_text, option_text}
use Rattle.kmipa_telling.proofs.causes.shape_lines.Goals as goal

pub returns : goal.returns
returns c =
    let shape = c.args.shape.now in
    let lines : List ℕ → List ℕ → List ℕ → List ℕ → List ℕ = λ option failed asked answered. line (codes "on errors: " ∷ option ∷ codes "\nfirst failed: " ∷ failed
    ∷ codes "\nthis item: " ∷ asked ∷ codes ", " ∷ answered ∷ []) in
    let option : c.option_text-option.result.now ≡ option_text shape.option = c.option_text-option.ensures in
    let failed : string_bytes c.in_ok-failed.failed ≡ failed_text shape.failed = c.in_ok-failed.ensures in
    let asked : c.asked_text-asked.result.now ≡ asked_text shape.asked = c.asked_text-asked.ensures in
    let answered : string_bytes c.in_ok-answered.answered ≡ answered_text shape.status = c.in_ok-answered.ensures in
    IfOk-weaker c.format.result _ _ (λ text e. e ∙ ap (λ o. lines o (string_bytes c.in_ok-failed.failed) c.asked_text-asked.result.now (string_bytes c.in_ok-answered.answered)) option
    ∙ ap (λ f. lines (option_text shape.option) f c.asked_text-asked.result.now (string_bytes c.in_ok-answered.answered)) failed
    ∙ ap (λ a. lines (option_text shape.option) (failed_text shape.failed) a (string_bytes c.in_ok-answered.answered)) asked
    ∙ ap (λ a. lines (option_text shape.option) (failed_text shape.failed) (asked_text shape.asked) a) answered) c.format.ensures.ok
