use Rattle.std.proofs.Common.{◌-◌, length}
use Rattle.kmipa_orders.proofs.open.related.next_calls.Given as goal

abbrev pub decreases-run : goal.decreases-run
decreases-run l = length l.tables.own.items - l.from
