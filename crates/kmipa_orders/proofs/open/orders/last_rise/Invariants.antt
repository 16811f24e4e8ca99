use Rattle.std.proofs.Common.{◌≤◌, length}
use Rattle.kmipa_orders.proofs.open.orders.last_rise.Given as goal

abbrev pub invariant-places : goal.invariant-places
invariant-places l = l.place ≤ length l.places

abbrev pub decreases-places : goal.decreases-places
decreases-places l = l.place
