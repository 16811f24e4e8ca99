use Rattle.std.proofs.Common.{◌≤◌, map, length}
use Rattle.kmipa_record.specs.Witnesses.{turn_of}
use Rattle.kmipa_turns.specs.Recorded.{recorded_of}
use Rattle.kmipa_turns.specs.Steps.{step_of}
use Rattle.kmipa_findings.specs.Forced.{ScannedFrom}
use Rattle.kmipa_findings.proofs.deciding.is_forced.Given as goal

abbrev pub invariant-calls : goal.invariant-calls
invariant-calls l = record {
  within : l.place ≤ length l.calls;
  scanned : ScannedFrom (map recorded_of l.calls) (map turn_of l.turns) (map step_of l.steps) l.count l.place l.least;
}

abbrev pub decreases-calls : goal.decreases-calls
decreases-calls l = l.place
