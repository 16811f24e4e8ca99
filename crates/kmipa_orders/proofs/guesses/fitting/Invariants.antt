use Rattle.std.proofs.Common.{◌≤◌, ◌-◌}
use Rattle.kmipa_orders.proofs.guesses.fitting.Given as goal

abbrev pub invariant-objects : goal.invariant-objects
invariant-objects g l = l.place ≤ l.count

abbrev pub decreases-objects : goal.decreases-objects
decreases-objects g l = l.count - l.place
