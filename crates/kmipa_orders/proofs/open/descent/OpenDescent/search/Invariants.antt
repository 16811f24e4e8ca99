use Rattle.std.proofs.Common.{◌≡◌, ◌≤◌, ◌+◌, ◌-◌, ◌*◌, length}
use Rattle.kmipa_orders.specs.OpenDescents.{Descends}
use Rattle.kmipa_orders.proofs.open.descent.OpenDescent.search.Given as goal

abbrev pub invariant-tries : goal.invariant-tries
invariant-tries g l = record {
  descends : Descends l.self (g.L.Ledger.state l.ledger);
  few : l.self.steps ≤ l.budget;
  watch : g.W.Watch.seconds l.watch ≡ g.W.Watch.seconds l.fn.watch;
}

abbrev pub decreases-tries : goal.decreases-tries
decreases-tries g l = 2 * (l.budget - l.self.steps) + length l.self.path.items
