use Rattle.std.proofs.Common.{◌-◌, length}
use Rattle.kmipa_unfit.specs.OrderFinding.{IsWithin}
use Rattle.kmipa_unfit.proofs.BelowLemmas.{EachBelow}
use Rattle.kmipa_unfit.proofs.orders.first_unanswered.Given as goal

abbrev pub invariant-numbers : goal.invariant-numbers
invariant-numbers l = EachBelow (IsWithin l.answered) l.numbers l.at

abbrev pub decreases-numbers : goal.decreases-numbers
decreases-numbers l = length l.numbers - l.at
