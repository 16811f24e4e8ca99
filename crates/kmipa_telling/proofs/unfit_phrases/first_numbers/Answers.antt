use Rattle.std.proofs.Common.{◌∙◌, ap, take}
use Rattle.std.proofs.lemmas.List.{take_min}
use Rattle.std.proofs.lemmas.Result.{IfOk-weaker}
use Rattle.std.specs.List.{flat_map}
use Rattle.kmipa_telling.specs.Phrases.{numbered}
use Rattle.kmipa_telling.proofs.unfit_phrases.first_numbers.Goals as goal

pub returns : goal.returns
returns c =
    let first = ap (λ n. take n c.args.numbers.now) c.min.ensures ∙ take_min 20 c.args.numbers.now in
    IfOk-weaker c.numbers_text.result _ _ (λ text e. e ∙ ap (flat_map numbered) first) c.numbers_text.ensures
