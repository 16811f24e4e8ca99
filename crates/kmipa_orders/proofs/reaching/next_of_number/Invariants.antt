use Rattle.std.proofs.Common.{ℕ, ◌-◌, List, map, length}
use Rattle.kmipa_orders.specs.Candidates.{candidate_step}
use Rattle.kmipa_orders.specs.Progress.{AreBegun}
use Rattle.kmipa_orders.specs.Remaining.{AreRemaining, IsCursor}
use Rattle.kmipa_orders.proofs.reaching.next_of_number.Given as goal

abbrev pub invariant-calls : goal.invariant-calls
invariant-calls l = (taken : List ℕ) → AreBegun (map candidate_step l.calls) → AreRemaining (map candidate_step l.calls) taken l.remaining → IsCursor (map candidate_step l.calls) taken l.from

abbrev pub decreases-calls : goal.decreases-calls
decreases-calls l = length l.calls - l.from
