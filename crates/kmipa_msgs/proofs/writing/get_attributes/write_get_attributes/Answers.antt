use Rattle.std.proofs.lemmas.List.{take_more}
use Rattle.kmipa_msgs.specs.Messages.{maybe_lent}
use Rattle.kmipa_msgs.specs.WrittenFields.{in_order, identifier_fields}
use Rattle.kmipa_msgs.proofs.GetAttributesLemmas.{reference_more}
use Rattle.kmipa_msgs.proofs.writing.get_attributes.write_get_attributes.Goals as goal

pub loop-tag-preserved : goal.loop-tag-preserved
loop-tag-preserved c =
    let tags = c.deref-tag-items.result.now in
    let i = c.loop-tag.tag-index in
    reference_more (in_order (identifier_fields (maybe_lent c.args.get.now.id))) tags i _ _ _ (take_more tags i 0 c.loop-tag-test.true) c.loop-tag.invariant c.in_ok-enumeration.ensures
