use Rattle.std.proofs.Common.{map, arith}
use Rattle.kmipa_check.specs.Steps.{step_of}
use Rattle.kmipa_check.proofs.PlaceLemmas.{mapped_at}
use Rattle.kmipa_explain.specs.Calls.{is_before}
use Rattle.kmipa_explain.proofs.BehindLemmas.{found_none, found_more, found_all}
use Rattle.kmipa_explain.proofs.calls.earlier_calls.Goals as goal

pub steps-init : goal.steps-init
steps-init c = found_none is_before (map step_of c.args.steps.now) c.args.turn c.new-numbers.result.items c.new-numbers.ensures.items

pub steps-preserved : goal.steps-preserved
steps-preserved c =
    found_more is_before (map step_of c.args.steps.now) c.args.turn c.steps.place (step_of c.index-steps-turn.result) (step_of c.index-steps-place.result)
    c.steps.numbers.items c.note.new.numbers.items c.is_before.result
    (mapped_at step_of c.args.steps.now c.args.turn c.index-steps-turn.result c.requires c.index-steps-turn.is)
    (mapped_at step_of c.args.steps.now c.steps.place c.index-steps-place.result c.steps-test.true c.index-steps-place.is)
    c.is_before.ensures c.in_ok-note.ensures c.steps.invariant

pub returns : goal.returns
returns c = λ s at. found_all is_before c.args.steps.now c.args.turn c.steps.place c.steps.numbers.items s (omega (arith, c.steps-test.false)) c.steps.invariant at
