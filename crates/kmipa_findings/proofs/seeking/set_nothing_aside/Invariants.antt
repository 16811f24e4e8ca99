use Rattle.std.proofs.Common.{◌≤◌, length}
use Rattle.kmipa_findings.proofs.EachLemmas.{EachFrom, IsUnaside}
use Rattle.kmipa_findings.proofs.seeking.set_nothing_aside.Given as goal

abbrev pub invariant-turns : goal.invariant-turns
invariant-turns l = record {
  within : l.place ≤ length l.turns;
  none : EachFrom IsUnaside l.turns l.place;
}

abbrev pub decreases-turns : goal.decreases-turns
decreases-turns l = l.place
