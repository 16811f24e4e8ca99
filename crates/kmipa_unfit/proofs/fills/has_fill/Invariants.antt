use Rattle.std.proofs.Common.{◌-◌, length, map}
use Rattle.kmipa_record.specs.Witnesses.{FillOf, fill_of}
use Rattle.kmipa_check.specs.Fills.{IsFor}
use Rattle.kmipa_unfit.proofs.BelowLemmas.{EachBelow}
use Rattle.kmipa_unfit.proofs.fills.has_fill.Given as goal

abbrev pub invariant-fills : goal.invariant-fills
invariant-fills l = EachBelow (λ (f : FillOf). IsFor f l.place → ⊥) (map fill_of l.fills) l.at

abbrev pub decreases-fills : goal.decreases-fills
decreases-fills l = length l.fills - l.at
