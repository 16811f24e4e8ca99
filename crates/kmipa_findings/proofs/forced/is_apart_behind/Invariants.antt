use Rattle.std.proofs.Common.{◌<◌, ◌-◌, map, length}
use Rattle.kmipa_turns.specs.Steps.{step_of}
use Rattle.kmipa_findings.specs.Choices.{IsApartUpTo}
use Rattle.kmipa_findings.proofs.forced.is_apart_behind.Given as goal

abbrev pub invariant-steps : goal.invariant-steps
invariant-steps l = record {
  behind : l.place < l.later;
  ahead : IsApartUpTo l.settings.tolerance (map step_of l.steps) l.place l.later (step_of l.step);
}

abbrev pub decreases-steps : goal.decreases-steps
decreases-steps l = length l.steps - l.later
