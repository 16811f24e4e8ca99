use Rattle.std.proofs.Common.{◌-◌, length}
use Rattle.kmipa_orders.proofs.ends.spread.Given as goal

abbrev pub decreases-ends : goal.decreases-ends
decreases-ends l = length l.ends - l.count
