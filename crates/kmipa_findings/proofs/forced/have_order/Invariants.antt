use Rattle.std.proofs.Common.{◌≤◌, length}
use Rattle.kmipa_findings.proofs.EachLemmas.{EachFrom}
use Rattle.kmipa_findings.proofs.ChoiceLemmas.{IsOrdered}
use Rattle.kmipa_findings.proofs.forced.have_order.Given as goal

abbrev pub invariant-steps : goal.invariant-steps
invariant-steps l = record {
  within : l.place ≤ length l.steps;
  each : EachFrom IsOrdered l.steps l.place;
}

abbrev pub decreases-steps : goal.decreases-steps
decreases-steps l = l.place
