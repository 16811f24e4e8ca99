use Rattle.std.proofs.Common.{◌≤◌, length}
use Rattle.kmipa_orders.proofs.pool.state_among.Given as goal

abbrev pub invariant-states : goal.invariant-states
invariant-states g l = l.place ≤ length l.states

abbrev pub decreases-states : goal.decreases-states
decreases-states g l = l.place
