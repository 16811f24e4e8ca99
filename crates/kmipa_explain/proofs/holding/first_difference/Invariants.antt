use Rattle.std.proofs.Common.{◌-◌, ◌≤◌, length}
use Rattle.kmipa_explain.proofs.HoldingLemmas.{AgreeBelow}
use Rattle.kmipa_explain.proofs.holding.first_difference.Given as goal

abbrev pub invariant-bytes : goal.invariant-bytes
invariant-bytes l = record { agree : AgreeBelow l.known l.shown l.place; within : l.place ≤ length l.known }

abbrev pub decreases-bytes : goal.decreases-bytes
decreases-bytes l = length l.known - l.place
