use Rattle.std.proofs.Common.{◌≡◌, ◌-◌, ℤ}
use Rattle.kmipa_unfit.proofs.BelowLemmas.{EachBelow}
use Rattle.kmipa_unfit.proofs.orders.earlier_place.Given as goal

abbrev pub invariant-numbers : goal.invariant-numbers
invariant-numbers l = EachBelow (λ (n : ℤ). n ≡ l.number → ⊥) l.numbers l.at

abbrev pub decreases-numbers : goal.decreases-numbers
decreases-numbers l = l.place - l.at
