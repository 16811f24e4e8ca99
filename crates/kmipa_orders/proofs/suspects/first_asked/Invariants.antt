use Rattle.std.proofs.Common.{length, ◌-◌}
use Rattle.kmipa_orders.proofs.suspects.first_asked.Given as goal

abbrev pub decreases-asked : goal.decreases-asked
decreases-asked l = length l.asked - l.at
