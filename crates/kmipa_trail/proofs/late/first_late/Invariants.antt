use Rattle.std.proofs.Common.{◌≤◌, length, map}
use Rattle.kmipa_trail.specs.Late.{ScannedFrom}
use Rattle.kmipa_turns.specs.Steps.{step_of}
use Rattle.kmipa_trail.proofs.late.first_late.Given as goal

abbrev pub invariant-steps : goal.invariant-steps
invariant-steps l = record { scanned : ScannedFrom (map step_of l.steps) l.place l.least l.late; within : l.place ≤ length l.steps }

abbrev pub decreases-steps : goal.decreases-steps
decreases-steps l = l.place
