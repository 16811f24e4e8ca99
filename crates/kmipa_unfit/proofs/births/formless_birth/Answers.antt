use Rattle.std.proofs.Common.{rules, Bool, length, map, refl, sym, subst, arith}
use mir.Val.{SFits}
use mir.Syntax.{w32}
use Rattle.std.proofs.lemmas.Int.{to_z-of_z}
use Rattle.std.proofs.lemmas.List.{length-map}
use Rattle.kmipa_record.specs.Witnesses.{birth_of}
use Rattle.kmipa_check.specs.Births.{IsMisformed}
use Rattle.kmipa_check.specs.Deciding.{Decided}
use Rattle.kmipa_check.specs.Grants.{grants_of}
use Rattle.kmipa_check.proofs.PlaceLemmas.{mapped_at}
use Rattle.kmipa_unfit.specs.UnfitBirths.{IsMisformedAt}
use Rattle.kmipa_unfit.proofs.BelowLemmas.{below_more}
use Rattle.kmipa_unfit.proofs.PartLemmas.{birth_formed, some_formed}
use Rattle.kmipa_unfit.proofs.births.formless_birth.Goals as goal

pub returns-then-misformed : goal.returns-then-misformed
returns-then-misformed c = λ request response wanted.
    let fits : SFits w32 c.index-births-at.result.item = search rules in
    let D : Bool → Type 0 = λ b. Decided b (IsMisformed (grants_of c.args.grants.now) (birth_of c.index-births-at.result)) in
    record {
      wanted = wanted;
      place = c.births.at;
      counted = refl;
      birth = birth_of c.index-births-at.result;
      there = mapped_at birth_of c.args.births.now c.births.at c.index-births-at.result c.births-test.true c.index-births-at.is;
      names = sym (to_z-of_z w32 c.index-births-at.result.item fits);
      misformed = subst D c.if-misformed.true c.in_ok-misformed.ensures;
      before = c.births.invariant;
    }

pub births-preserved : goal.births-preserved
births-preserved c =
    let g = grants_of c.args.grants.now in
    let births = map birth_of c.args.births.now in
    let there = mapped_at birth_of c.args.births.now c.births.at c.index-births-at.result c.births-test.true c.index-births-at.is in
    let D : Bool → Type 0 = λ b. Decided b (IsMisformed g (birth_of c.index-births-at.result)) in
    below_more (λ place. IsMisformedAt g births place → ⊥) c.births.at
    (birth_formed g births c.births.at (birth_of c.index-births-at.result) there (subst D c.if-misformed.false c.in_ok-misformed.ensures)) c.births.invariant

pub returns : goal.returns
returns c =
    absurd (some_formed (grants_of c.args.grants.now) (map birth_of c.args.births.now) c.births.at (omega (arith, c.births-test.false, length-map c.args.births.now birth_of)) c.births.invariant c.requires)
