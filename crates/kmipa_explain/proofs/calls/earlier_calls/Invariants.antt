use Rattle.std.proofs.Common.{◌-◌, length, map}
use Rattle.kmipa_check.specs.Steps.{step_of}
use Rattle.kmipa_explain.specs.Calls.{is_before}
use Rattle.kmipa_explain.proofs.BehindLemmas.{Found}
use Rattle.kmipa_explain.proofs.calls.earlier_calls.Given as goal

abbrev pub invariant-steps : goal.invariant-steps
invariant-steps l = Found is_before (map step_of l.steps) l.turn l.place l.numbers.items

abbrev pub decreases-steps : goal.decreases-steps
decreases-steps l = length l.steps - l.place
