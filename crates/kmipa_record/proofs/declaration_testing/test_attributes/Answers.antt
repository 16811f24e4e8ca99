use Rattle.std.proofs.Common.{◌≢◌, ◌∙◌, ◌++◌, ◌∷◌, [], List, take, get_or, refl, ap, sym, subst}
use Rattle.std.proofs.lemmas.List.{take_more}
use Rattle.kmipa_record.specs.Declarations.{IsNewAttribute}
use Rattle.kmipa_record.specs.Writing.{refused}
use Rattle.kmipa_record.specs.declared.own_attribute.OwnAttribute.{OwnAttribute}
use Rattle.kmipa_record.specs.declared.own_attribute.OwnAttribute.TheVariants.{Name}
use Rattle.kmipa_record.proofs.PairLemmas.{pairs_ahead, pairs_at}
use Rattle.kmipa_record.proofs.declaration_testing.test_attributes.Goals as goal

abbrev Apart : OwnAttribute → OwnAttribute → Type 0
Apart a b = a ≢ b

pub returns-then-not-is_new_attribute-clause-refused : goal.returns-then-not-is_new_attribute-clause-refused
returns-then-not-is_new_attribute-clause-refused c =
    let attributes = c.args.attributes.now in let i = c.loop-attribute.attribute-index in
    let a = get_or attributes i Name in
    refused refl (λ are.
    let new : IsNewAttribute (take i attributes) a = pairs_ahead Apart attributes i Name c.loop-attribute-test.true are in
    let seen = c.deref.ensures.value ∙ c.loop-attribute.invariant.0 in
    absurd (let yes = c.is_new_attribute.ensures.1 (subst (λ (l : List OwnAttribute). IsNewAttribute l a) (sym seen) new) in let no = c.if-not-is_new_attribute.true in cc))

pub loop-attribute-preserved : goal.loop-attribute-preserved
loop-attribute-preserved c =
    let attributes = c.args.attributes.now in let i = c.loop-attribute.attribute-index in
    let a = get_or attributes i Name in
    let inv = c.loop-attribute.invariant in
    let seen = c.deref.ensures.value ∙ inv.0 in
    let new = subst (λ (l : List OwnAttribute). IsNewAttribute l a) seen (c.is_new_attribute.ensures.0 c.if-not-is_new_attribute.false) in (
      c.in-Ok.ensures.items ∙ ap (λ (l : List OwnAttribute). l ++ a ∷ []) inv.0 ∙ sym (take_more attributes i Name c.loop-attribute-test.true),
      pairs_at Apart attributes i Name c.loop-attribute-test.true inv.1 new,
    )
