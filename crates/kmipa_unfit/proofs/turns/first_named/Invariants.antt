use Rattle.std.proofs.Common.{◌≡◌, ◌-◌, map}
use Rattle.kmipa_record.specs.Witnesses.{TurnOf, turn_of}
use Rattle.kmipa_unfit.proofs.BelowLemmas.{EachBelow}
use Rattle.kmipa_unfit.proofs.turns.first_named.Given as goal

abbrev pub invariant-turns : goal.invariant-turns
invariant-turns l = EachBelow (λ (t : TurnOf). t.call ≡ l.number → ⊥) (map turn_of l.turns) l.earlier

abbrev pub decreases-turns : goal.decreases-turns
decreases-turns l = l.place - l.earlier
