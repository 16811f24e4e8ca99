use Rattle.std.proofs.Common.{ℕ, ◌+◌, ◌-◌, List, map, length}
use Rattle.kmipa_orders.specs.Candidates.{candidate_step}
use Rattle.kmipa_orders.specs.Ends.{AreFlagged}
use Rattle.kmipa_orders.specs.Ranks.{InAnyOrder, IsRanked, WereLinked}
use Rattle.kmipa_orders.specs.Remaining.{AreRemaining}
use Rattle.kmipa_orders.specs.Wished.{IsAlong}
use Rattle.kmipa_orders.proofs.picking.most_wished.Given as goal

abbrev pub invariant-run : goal.invariant-run
invariant-run l = (taken : List ℕ) → AreRemaining (map candidate_step l.calls) taken l.remaining
    → IsRanked (length (map candidate_step l.calls)) InAnyOrder l.wishes.order.items l.wishes.rank.items
    → WereLinked (length (map candidate_step l.calls)) l.wishes.rank.items taken l.by_wish.after.items l.by_wish.before.items
    → AreFlagged (length (map candidate_step l.calls)) taken l.flags
    → IsAlong (map candidate_step l.calls) taken l.wishes.rank.items l.tried l.rank

abbrev pub decreases-run : goal.decreases-run
decreases-run l = length l.calls + 1 - l.rank
