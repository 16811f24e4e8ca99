use Rattle.std.proofs.Common.{List, map, take, sym, ap, ◌∙◌}
use Rattle.std.proofs.lemmas.List.{take_all}
use Rattle.kmipa_record.proofs.WritingLemmas.{mapped_more}
use Rattle.kmipa_check.specs.Steps.{StepOf, step_of}
use Rattle.kmipa_check.specs.declared.step.Step.{Step}
use Rattle.kmipa_stream.specs.Counting.{tally_of}
use Rattle.kmipa_stream.proofs.counting.tally_of_steps.Goals as goal

pub loop-step-preserved : goal.loop-step-preserved
loop-step-preserved c =
    let steps = c.args.steps.now in
    let i = c.loop-step.step-index in
    c.tallied_with-tally.ensures (map step_of (take i steps)) c.loop-step.invariant
    ∙ ap (λ (l : List StepOf). tally_of l) (sym (mapped_more step_of steps i c.step-item.result c.loop-step-test.true c.step-item.is))

pub returns : goal.returns
returns c = c.loop-step.invariant ∙ ap (λ (l : List Step). tally_of (map step_of l)) (take_all c.loop-step.step-index c.args.steps.now c.loop-step-test.false)
