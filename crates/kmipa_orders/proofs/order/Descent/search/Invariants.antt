use Rattle.std.proofs.Common.{◌≡◌, ◌+◌, ◌-◌, ◌*◌, map, length}
use Rattle.kmipa_msgs.specs.Messages.{rules_of}
use Rattle.kmipa_orders.specs.Candidates.{candidate_step}
use Rattle.kmipa_orders.specs.Descents.{Descends}
use Rattle.kmipa_orders.proofs.order.Descent.search.Given as goal

abbrev pub invariant-tries : goal.invariant-tries
invariant-tries g l = record {
  descends : Descends (rules_of l.rules) (map candidate_step l.calls) l.budget (g.L.Ledger.state l.fn.ledger).now l.self (g.L.Ledger.state l.ledger);
  watch : g.W.Watch.seconds l.watch ≡ g.W.Watch.seconds l.fn.watch;
}

abbrev pub decreases-tries : goal.decreases-tries
decreases-tries g l = 2 * (l.budget - l.self.steps) + length l.self.path.items
