use Rattle.std.proofs.Common.{◌≤◌, ◌-◌}
use Rattle.kmipa_orders.proofs.guesses.guessed_turn.Given as goal

abbrev pub invariant-items : goal.invariant-items
invariant-items g l = l.place ≤ l.count

abbrev pub decreases-items : goal.decreases-items
decreases-items g l = l.count - l.place
