use Rattle.std.proofs.Common.{◌-◌}
use Rattle.kmipa_unfit.specs.OrderFinding.{HaveAll}
use Rattle.kmipa_unfit.proofs.orders.first_left.Given as goal

abbrev pub invariant-items : goal.invariant-items
invariant-items l = HaveAll l.numbers l.place

abbrev pub decreases-items : goal.decreases-items
decreases-items l = l.answered - l.place
