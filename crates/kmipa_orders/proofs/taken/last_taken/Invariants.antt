use Rattle.std.proofs.Common.{◌≡◌, ◌<◌, ℕ, true}
use Rattle.kmipa_orders.specs.Ends.{flag}
use Rattle.kmipa_orders.proofs.taken.last_taken.Given as goal

abbrev pub invariant-run : goal.invariant-run
invariant-run l = ((p : ℕ) → flag l.flags p ≡ true → p < l.to) → (p : ℕ) → flag l.flags p ≡ true → p < l.place

abbrev pub decreases-run : goal.decreases-run
decreases-run l = l.place
