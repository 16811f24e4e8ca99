use Rattle.std.proofs.Common.{◌≡◌, ◌-◌, ℤ, length, Some, slice_get}
use Rattle.kmipa_unfit.specs.OrderFinding.{StandsAhead}
use Rattle.kmipa_unfit.proofs.BelowLemmas.{Below}
use Rattle.kmipa_unfit.proofs.orders.first_twice.Given as goal

abbrev pub invariant-numbers : goal.invariant-numbers
invariant-numbers l = Below (λ at. (number : ℤ) → slice_get l.numbers at ≡ Some number → StandsAhead l.numbers at number → ⊥) l.at

abbrev pub decreases-numbers : goal.decreases-numbers
decreases-numbers l = length l.numbers - l.at
