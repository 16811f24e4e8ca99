use Rattle.std.proofs.Common.{◌≡◌, ◌≤◌, ℕ, length, slice_get, Some}
use Rattle.kmipa_orders.specs.Ends.{Shared, StandsAmong, still_shared}
use Rattle.kmipa_orders.specs.Stills.{stills}
use Rattle.kmipa_orders.proofs.stills.stand_so.Given as goal

abbrev pub invariant-objects : goal.invariant-objects
invariant-objects g l = record {
  within : l.place ≤ length l.objects;
  stand : (k : ℕ) (s : Shared) → l.place ≤ k → slice_get l.objects k ≡ Some s → StandsAmong l.front k (still_shared s) (stills (g.L.Ledger.state l.ledger).now);
}

abbrev pub decreases-objects : goal.decreases-objects
decreases-objects g l = l.place
