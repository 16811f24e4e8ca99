use Rattle.std.proofs.Common.{◌≡◌, ◌≤◌, ℕ, length, slice_get, Some}
use Rattle.kmipa_store.specs.Ledger.{Held}
use Rattle.kmipa_orders.specs.Settled.{IsTold}
use Rattle.kmipa_orders.proofs.settled.are_told.Given as goal

abbrev pub invariant-objects : goal.invariant-objects
invariant-objects g l = record {
  within : l.place ≤ length (g.L.Ledger.state l.ledger).now.objects;
  told : (k : ℕ) (h : Held) → l.place ≤ k → slice_get (g.L.Ledger.state l.ledger).now.objects k ≡ Some h → IsTold (g.L.Ledger.state l.ledger).now.secrets h.material;
}

abbrev pub decreases-objects : goal.decreases-objects
decreases-objects g l = l.place
