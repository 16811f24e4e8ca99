use Rattle.std.proofs.Common.{◌-◌, ◌≤◌, length}
use Rattle.kmipa_check.proofs.KeptLemmas.{OpensFirst}
use Rattle.kmipa_check.proofs.kept.count_own.Given as goal

-- the entries of the objects up to here open these and their secrets
abbrev pub invariant-places : goal.invariant-places
invariant-places g l = record {
  within : l.place ≤ length (g.L.Ledger.state l.ledger).now.objects;
  opens : OpensFirst (g.L.Ledger.state l.ledger).now l.place l.next;
}

abbrev pub decreases-places : goal.decreases-places
decreases-places g l = length (g.L.Ledger.state l.ledger).now.objects - l.place
