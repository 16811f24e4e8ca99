use Rattle.std.proofs.Common.{◌≤◌, length}
use Rattle.kmipa_findings.proofs.EachLemmas.{EachFrom}
use Rattle.kmipa_findings.proofs.ChoiceLemmas.{IsDone}
use Rattle.kmipa_findings.proofs.forced.have_ended.Given as goal

abbrev pub invariant-calls : goal.invariant-calls
invariant-calls l = record {
  within : l.place ≤ length l.calls;
  each : EachFrom IsDone l.calls l.place;
}

abbrev pub decreases-calls : goal.decreases-calls
decreases-calls l = l.place
