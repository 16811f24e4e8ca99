use Rattle.std.proofs.Common.{◌-◌, length}
use Rattle.kmipa_orders.proofs.TakenLemmas.{AreRising}
use Rattle.kmipa_orders.proofs.taken.are_marked.Given as goal

abbrev pub invariant-run : goal.invariant-run
invariant-run l = AreRising l.flags l.rest l.low l.count l.least

abbrev pub decreases-run : goal.decreases-run
decreases-run l = length l.rest - l.count
