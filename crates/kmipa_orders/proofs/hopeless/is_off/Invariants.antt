use Rattle.std.proofs.Common.{◌-◌, length}
use Rattle.kmipa_orders.proofs.hopeless.is_off.Given as goal

abbrev pub invariant-places : goal.invariant-places
invariant-places l = Unit {0}

abbrev pub decreases-places : goal.decreases-places
decreases-places l = length l.request.items.items - l.place
