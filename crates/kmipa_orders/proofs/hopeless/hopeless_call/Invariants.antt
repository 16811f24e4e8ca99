use Rattle.std.proofs.Common.{◌-◌, length}
use Rattle.kmipa_orders.proofs.hopeless.hopeless_call.Given as goal

abbrev pub invariant-calls : goal.invariant-calls
invariant-calls l = Unit {0}

abbrev pub decreases-calls : goal.decreases-calls
decreases-calls l = length l.calls - l.place
