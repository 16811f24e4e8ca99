use Rattle.std.proofs.Common.{◌≤◌, ◌-◌, length}
use Rattle.kmipa_orders.proofs.open.due.first_from.Given as goal

abbrev pub invariant-halves : goal.invariant-halves
invariant-halves l = (l.low ≤ l.high) × (l.high ≤ length l.due)

abbrev pub decreases-halves : goal.decreases-halves
decreases-halves l = l.high - l.low
