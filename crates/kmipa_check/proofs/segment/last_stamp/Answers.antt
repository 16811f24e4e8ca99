use Rattle.std.proofs.Common.{◌∙◌, Some, sym, ap, FitsSigned, rules}
use Rattle.std.proofs.lemmas.Int.{to_z-of_z}
use Rattle.kmipa_check.proofs.SinceLemmas.{last_step}
use mir.Syntax.{w64}
use Rattle.kmipa_check.proofs.segment.last_stamp.Goals as goal

pub returns-in-Some : goal.returns-in-Some
returns-in-Some c =
    let fits : FitsSigned w64 c.moment.result = search rules in
    ap Some (to_z-of_z w64 c.moment.result fits ∙ c.moment.ensures) ∙ sym (last_step c.args.since c.args.steps.now c.in-Some.last.now (sym c.in-Some.ensures.value))
