use Rattle.std.proofs.Common.{◌∙◌, FitsSigned, rules}
use Rattle.std.proofs.lemmas.Int.{to_z-of_z}
use Rattle.kmipa_check.specs.Steps.{step_of}
use Rattle.kmipa_check.proofs.TurnLemmas.{back_decided, less_decided_of}
use mir.Syntax.{w64}
use mir.Val.{to_z, of_z}
use Rattle.kmipa_check.proofs.replay.runs_back.Goals as goal

pub returns : goal.returns
returns c = λ x at.
    let now : FitsSigned w64 c.moment-now.result = search rules in
    let last : FitsSigned w64 c.moment-last.result = search rules in
    back_decided c.args.steps.now c.args.turn c.index-steps-turn.result c.index-steps-turn-2.result c.requires.below c.if-turn-eq0.false c.index-steps-turn.is c.index-steps-turn-2.is x at _
    (less_decided_of (to_z w64 (of_z w64 c.moment-now.result)) (to_z w64 (of_z w64 c.moment-last.result)) (step_of c.index-steps-turn.result).response.stamp (step_of c.index-steps-turn-2.result).response.stamp
    (to_z-of_z w64 c.moment-now.result now ∙ c.moment-now.ensures) (to_z-of_z w64 c.moment-last.result last ∙ c.moment-last.ensures))
