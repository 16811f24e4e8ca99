-- The calls that remain to be taken. Not promised.
use Rattle.std.specs.Prelude.{ℕ, List, length}
use Rattle.kmipa_check.specs.Steps.{StepOf}
pub use Rattle.kmipa_orders.specs.Cursors.{IsCursor}
use Rattle.kmipa_orders.specs.Taken.{AreNext}
use Rattle.kmipa_orders.specs.Ranks.{IsRanked, ByStamp, ByEnd, WereLinked}
use Rattle.kmipa_orders.specs.declared.remaining.Remaining.{Remaining}

-- these calls are taken, and the others remain
pub record AreRemaining (calls : List StepOf) (taken : List ℕ) (w : Remaining) : Type 0 where
  pub stamps : IsRanked (length calls) (ByStamp calls) w.stamps.order.items w.stamps.rank.items
  pub ends : IsRanked (length calls) (ByEnd calls) w.ends.order.items w.ends.rank.items
  pub by_stamp : WereLinked (length calls) w.stamps.rank.items taken w.by_stamp.after.items w.by_stamp.before.items
  pub by_end : WereLinked (length calls) w.ends.rank.items taken w.by_end.after.items w.by_end.before.items
  pub next : AreNext calls taken
