use Rattle.std.proofs.Common.{◌≡◌, map, take}
use Rattle.kmipa_check.specs.Steps.{step_of}
use Rattle.kmipa_stream.specs.Counting.{tally_of}
use Rattle.kmipa_stream.proofs.counting.tally_of_steps.Given as goal

abbrev pub invariant-loop-step : goal.invariant-loop-step
invariant-loop-step l = l.tally ≡ tally_of (map step_of (take l.step-index l.steps))
