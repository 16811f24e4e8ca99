use Rattle.std.proofs.Common.{◌≡◌, ◌-◌, length, map, take}
use Rattle.kmipa_turns.specs.Recorded.{recorded_of}
use Rattle.kmipa_findings.specs.Choices.{HaveEnded}
use Rattle.kmipa_findings.proofs.calls.ended_calls.Given as goal

abbrev pub invariant-calls : goal.invariant-calls
invariant-calls l = HaveEnded (map recorded_of l.calls) → l.ended.items ≡ take l.place l.calls

abbrev pub decreases-calls : goal.decreases-calls
decreases-calls l = length l.calls - l.place
