use Rattle.std.proofs.Common.{◌≡◌, ◌≢◌, List, subst, refl}
use Rattle.std.proofs.lemmas.List.{take_all}
use Rattle.kmipa_record.specs.Declarations.{IsNewAttribute}
use Rattle.kmipa_record.specs.declared.own_attribute.OwnAttribute.{OwnAttribute}
use Rattle.kmipa_record.specs.declared.own_attribute.OwnAttribute.TheVariants.{Name}
use Rattle.kmipa_record.proofs.WritingLemmas.{all_at}
use Rattle.kmipa_record.proofs.own_line.is_new_attribute.Goals as goal

pub loop-other-preserved : goal.loop-other-preserved
loop-other-preserved c =
    all_at (λ (other : OwnAttribute). other ≢ c.args.attribute) c.args.attributes.now c.loop-other.other-index Name c.loop-other-test.true c.loop-other.invariant
    (λ same. absurd (let yes = c.are_same.ensures.1 same in let no = c.if-are_same.false in cc))

pub returns : goal.returns
returns c = (λ t. subst (λ (l : List OwnAttribute). IsNewAttribute l c.args.attribute) (take_all c.loop-other.other-index c.args.attributes.now c.loop-other-test.false) c.loop-other.invariant, λ all. refl)
