use Rattle.std.proofs.Common.{ℕ, ◌-◌, ◌≤◌, List, map, length}
use Rattle.kmipa_orders.specs.Candidates.{candidate_step}
use Rattle.kmipa_orders.specs.Progress.{AreBegun}
use Rattle.kmipa_orders.specs.Remaining.{AreRemaining, IsCursor}
use Rattle.kmipa_orders.specs.Tries.{IsBestTill}
use Rattle.kmipa_orders.proofs.picking.best.Given as goal

abbrev pub invariant-run : goal.invariant-run
invariant-run l = (l.seen ≤ 64)
    × ((taken : List ℕ) → AreBegun (map candidate_step l.calls) → AreRemaining (map candidate_step l.calls) taken l.remaining → IsCursor (map candidate_step l.calls) taken l.tried.from
    → IsBestTill (map candidate_step l.calls) taken l.wishes.rank.items l.tried l.from l.best)

abbrev pub decreases-run : goal.decreases-run
decreases-run l = length l.calls - l.from
