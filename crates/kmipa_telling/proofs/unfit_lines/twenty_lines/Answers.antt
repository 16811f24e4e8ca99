use Rattle.std.proofs.Common.{◌∙◌, ap, take}
use Rattle.std.proofs.lemmas.List.{take_min}
use Rattle.std.proofs.lemmas.Result.{IfOk-weaker}
use Rattle.std.specs.List.{flat_map}
use Rattle.kmipa_telling.specs.UnfitLines.{asked_line}
use Rattle.kmipa_telling.proofs.unfit_lines.twenty_lines.Goals as goal

pub returns : goal.returns
returns c =
    let first = ap (λ n. take n c.args.operations.now) c.min.ensures ∙ take_min 20 c.args.operations.now in
    IfOk-weaker c.first_lines.result _ _ (λ text e. e ∙ ap (flat_map asked_line) first) c.first_lines.ensures
