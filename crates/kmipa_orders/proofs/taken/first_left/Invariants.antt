use Rattle.std.proofs.Common.{◌≡◌, ◌<◌, ◌-◌, ℕ, true, length}
use Rattle.kmipa_orders.specs.Ends.{flag}
use Rattle.kmipa_orders.proofs.taken.first_left.Given as goal

abbrev pub invariant-run : goal.invariant-run
invariant-run l = ((p : ℕ) → p < l.from → flag l.flags p ≡ true) → (p : ℕ) → p < l.place → flag l.flags p ≡ true

abbrev pub decreases-run : goal.decreases-run
decreases-run l = length l.flags - l.place
