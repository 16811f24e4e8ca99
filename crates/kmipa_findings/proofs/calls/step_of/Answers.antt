use Rattle.std.proofs.Common.{subst}
use Rattle.kmipa_check.specs.Grants.{grants_of}
use Rattle.kmipa_check.specs.declared.fault.StepFault.{StepFault}
use Rattle.kmipa_record.specs.Witnesses.{turn_of}
use Rattle.kmipa_turns.specs.Faults.{Refuses}
use Rattle.kmipa_turns.specs.Recorded.{recorded_of}
use Rattle.kmipa_trail.proofs.OneStepLemmas.{step_right}
use Rattle.kmipa_findings.proofs.calls.step_of.Goals as goal

pub returns-in-Err-Unfit-clause-none : goal.returns-in-Err-Unfit-clause-none
returns-in-Err-Unfit-clause-none c = λ none s i.
    let g = grants_of c.args.grants.now in
    let call = recorded_of c.args.call.now in
    let turn = turn_of c.args.turn.now in
    let R : StepFault → Type 0 = λ f. Refuses g call turn f in
    step_right g call turn s i c.in-Err-Unfit.field-0-0 (subst R c.in-Err-Unfit.field-0-is (c.in-Err-Unfit.ensures i.named))
