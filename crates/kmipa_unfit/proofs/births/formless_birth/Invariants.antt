use Rattle.std.proofs.Common.{◌-◌, length, map}
use Rattle.kmipa_record.specs.Witnesses.{birth_of}
use Rattle.kmipa_check.specs.Grants.{grants_of}
use Rattle.kmipa_unfit.specs.UnfitBirths.{IsMisformedAt}
use Rattle.kmipa_unfit.proofs.BelowLemmas.{Below}
use Rattle.kmipa_unfit.proofs.births.formless_birth.Given as goal

abbrev pub invariant-births : goal.invariant-births
invariant-births l = Below (λ place. IsMisformedAt (grants_of l.grants) (map birth_of l.births) place → ⊥) l.at

abbrev pub decreases-births : goal.decreases-births
decreases-births l = length l.births - l.at
