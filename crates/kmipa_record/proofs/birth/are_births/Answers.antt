use Rattle.std.proofs.Common.{List, map, take, drop, suc, sym, subst, refl}
use Rattle.std.proofs.lemmas.List.{take_all}
use Rattle.std.proofs.lemmas.List.Elements.{All-push}
use Rattle.kmipa_record.specs.Witnesses.{BirthOf, birth_of, IsAttributes, AreBirths}
use Rattle.kmipa_record.specs.declared.birth.Birth.{Birth}
use Rattle.kmipa_record.proofs.WritingLemmas.{mapped_more, mapped_here, one_of}
use Rattle.kmipa_record.proofs.birth.are_births.Goals as goal

pub returns-then-not-are_attributes : goal.returns-then-not-are_attributes
returns-then-not-are_attributes c = (
  λ t. absurd cc,
  λ all.
      let births = c.args.births.now in let i = c.loop-birth.birth-index in let birth = c.birth-item.result in
      let one = one_of (λ (f : BirthOf). IsAttributes f.attributes) (map birth_of births) (map birth_of (take i births)) (map birth_of (drop (suc i) births)) (birth_of birth)
      (mapped_here birth_of births i birth c.loop-birth-test.true c.birth-item.is) all in
      absurd (let yes = c.are_attributes.ensures.1 one in let not = c.if-not-are_attributes.true in cc),
)

pub loop-birth-preserved : goal.loop-birth-preserved
loop-birth-preserved c =
    let births = c.args.births.now in let i = c.loop-birth.birth-index in let birth = c.birth-item.result in
    subst AreBirths (sym (mapped_more birth_of births i birth c.loop-birth-test.true c.birth-item.is))
    (All-push (λ (f : BirthOf). IsAttributes f.attributes) (map birth_of (take i births)) (birth_of birth) c.loop-birth.invariant (c.are_attributes.ensures.0 c.if-not-are_attributes.false))

pub returns : goal.returns
returns c = (λ t. subst (λ (l : List Birth). AreBirths (map birth_of l)) (take_all c.loop-birth.birth-index c.args.births.now c.loop-birth-test.false) c.loop-birth.invariant, λ all. refl)
