use Rattle.std.proofs.Common.{◌≡◌, ◌+◌, ◌-◌, ◌*◌, length}
use Rattle.kmipa_orders.proofs.GuessLemmas.{Guessing}
use Rattle.kmipa_orders.proofs.guessing.guess_order.Given as goal

abbrev pub invariant-tries : goal.invariant-tries
invariant-tries g l = record {
  guessing : Guessing (length l.calls) l.budget l.path.items l.turns.items l.depth l.steps (g.L.Ledger.state l.ledger);
  watch : g.W.Watch.seconds l.watch ≡ g.W.Watch.seconds l.fn.watch;
}

abbrev pub decreases-tries : goal.decreases-tries
decreases-tries g l = 2 * (l.budget - l.steps) + length l.path.items
