use Rattle.std.proofs.Common.{◌∙◌, [], ◌∷◌, ap, codes, string_bytes}
use Rattle.std.proofs.lemmas.Result.{IfOk-weaker}
use Rattle.kmipa_runs.specs.Lines.{line}
use Rattle.kmipa_telling.proofs.attribute_causes.value_line.Goals as goal

pub returns : goal.returns
returns c =
    let shown = string_bytes c.in_ok-shown.shown in
    let own = string_bytes c.in_ok-own.own in
    IfOk-weaker c.format.result _ _ (λ text e. (
      shown,
      own,
      c.in_ok-shown.ensures,
      c.in_ok-own.ensures,
      e ∙ ap (λ n. line (n ∷ codes ": " ∷ shown ∷ codes ", " ∷ own ∷ [])) c.attribute_name-name.ensures,
    )) c.format.ensures.ok
