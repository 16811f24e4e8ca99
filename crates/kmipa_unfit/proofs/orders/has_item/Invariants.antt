use Rattle.std.proofs.Common.{◌≡◌, ◌+◌, ◌-◌, ℤ, pos, length}
use Rattle.kmipa_unfit.proofs.BelowLemmas.{EachBelow}
use Rattle.kmipa_unfit.proofs.orders.has_item.Given as goal

abbrev pub invariant-numbers : goal.invariant-numbers
invariant-numbers l = EachBelow (λ (n : ℤ). n ≡ pos (l.place + 1) → ⊥) l.numbers l.at

abbrev pub decreases-numbers : goal.decreases-numbers
decreases-numbers l = length l.numbers - l.at
