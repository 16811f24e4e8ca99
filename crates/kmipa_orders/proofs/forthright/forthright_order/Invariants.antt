use Rattle.std.proofs.Common.{◌<◌, ◌-◌, All, length}
use Rattle.kmipa_orders.proofs.forthright.forthright_order.Given as goal

abbrev pub invariant-places : goal.invariant-places
invariant-places l = All (λ place. place < length l.calls) l.order.items

abbrev pub decreases-places : goal.decreases-places
decreases-places l = length l.calls - length l.order.items
