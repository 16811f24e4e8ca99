use Rattle.std.proofs.Common.{◌≡◌, ◌<◌, ◌≤◌, ◌-◌, ℕ, true, Contains}
use Rattle.kmipa_orders.specs.Ends.{flag}
use Rattle.kmipa_orders.proofs.taken.marked_between.Given as goal

abbrev pub invariant-run : goal.invariant-run
invariant-run l = record {
  are : (p : ℕ) → l.low ≤ p → p < l.place → flag l.flags p ≡ true → Contains l.rest.items p;
  only : (p : ℕ) → Contains l.rest.items p → flag l.flags p ≡ true;
}

abbrev pub decreases-run : goal.decreases-run
decreases-run l = l.high - l.place
