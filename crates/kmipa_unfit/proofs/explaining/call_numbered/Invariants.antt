use Rattle.std.proofs.Common.{◌≡◌, ◌-◌, length, map}
use Rattle.kmipa_check.specs.Calls.{CallOf, call_of}
use Rattle.kmipa_unfit.proofs.BelowLemmas.{EachBelow}
use Rattle.kmipa_unfit.proofs.explaining.call_numbered.Given as goal

abbrev pub invariant-calls : goal.invariant-calls
invariant-calls l = EachBelow (λ (c : CallOf). c.number ≡ l.number → ⊥) (map call_of l.calls) l.place

abbrev pub decreases-calls : goal.decreases-calls
decreases-calls l = length l.calls - l.place
