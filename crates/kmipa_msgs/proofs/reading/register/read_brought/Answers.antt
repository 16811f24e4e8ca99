use Rattle.std.proofs.Common.{◌∙◌, ap, rules}
use Rattle.kmipa_ttlv.specs.ViewTree.{view_trees}
use Rattle.kmipa_attrs.specs.Fields.{at, in_field, map_field, as_enumeration}
use Rattle.kmipa_attrs.specs.ObjectTypes.{type_of}
use Rattle.kmipa_attrs.specs.Sets.{attributes_of}
use Rattle.kmipa_attrs.specs.Tags.{object_type_tag}
use Rattle.kmipa_attrs.specs.declared.side.Side.TheVariants.{Client}
use Rattle.kmipa_msgs.specs.declared.kind.OutsideKind.TheVariants.{ObjectType}
use Rattle.kmipa_msgs.specs.AttributeFields.{given_in}
use Rattle.kmipa_msgs.specs.Brought.{brought_of}
use Rattle.kmipa_msgs.specs.Kinds.{kind_number}
use Rattle.kmipa_msgs.specs.Registers.{brought_in}
use Rattle.kmipa_msgs.specs.Tables.{unless_unlisted}
use Rattle.kmipa_msgs.proofs.ViewLemmas.{joined}
use Rattle.kmipa_msgs.proofs.RegisterLemmas.{brought_view, seen_brought}
use Rattle.kmipa_msgs.proofs.YieldsLemmas.{yields_both, yields_err, yields_ok}
use Rattle.kmipa_msgs.proofs.reading.register.read_brought.Goals as goal

pub returns-in_err-object_type : goal.returns-in_err-object_type
returns-in_err-object_type c =
    let ts = view_trees c.args.payload in
    let types = joined kind_number _ _ c.both-types.result _ _ c.both-types.ensures c.type_brought.ensures c.read_object-shape.ensures.shape in
    let known = c.type_known-type_known.ensures ∙ ap (λ us. unless_unlisted (at as_enumeration object_type_tag us) type_of ObjectType) (c.children_in.ensures ∙ ap in_field c.structure_at-given.ensures) in
    let judged = joined kind_number _ _ c.both.result _ _ c.both.ensures types known in
    let read =
    yields_both attributes_of brought_view c.both-plain.result c.read_attributes.result c.both_read-rows.result (given_in Client (map_field view_trees c.structure_at-given.result)) (brought_in ts) c.both_read-rows.ensures c.read_attributes.ensures
    (λ given g rows e. seen_brought ts (view_trees c.read_object-shape.result.1) c.both.result c.read_key_block.result c.both-plain.result given rows e c.both-plain.ensures judged c.read_key_block.ensures c.read_object-shape.ensures.block (g ∙ ap (given_in Client) c.structure_at-given.ensures)) in
    yields_err brought_view brought_of c.both_read-rows.result c.in_err-object_type.field-0.0 c.from_residual.result (brought_in ts) read c.in_err-object_type.was (search rules)

pub returns : goal.returns
returns c =
    let ts = view_trees c.args.payload in
    let types = joined kind_number _ _ c.both-types.result _ _ c.both-types.ensures c.type_brought.ensures c.read_object-shape.ensures.shape in
    let known = c.type_known-type_known.ensures ∙ ap (λ us. unless_unlisted (at as_enumeration object_type_tag us) type_of ObjectType) (c.children_in.ensures ∙ ap in_field c.structure_at-given.ensures) in
    let judged = joined kind_number _ _ c.both.result _ _ c.both.ensures types known in
    let read =
    yields_both attributes_of brought_view c.both-plain.result c.read_attributes.result c.both_read-rows.result (given_in Client (map_field view_trees c.structure_at-given.result)) (brought_in ts) c.both_read-rows.ensures c.read_attributes.ensures
    (λ given g rows e. seen_brought ts (view_trees c.read_object-shape.result.1) c.both.result c.read_key_block.result c.both-plain.result given rows e c.both-plain.ensures judged c.read_key_block.ensures c.read_object-shape.ensures.block (g ∙ ap (given_in Client) c.structure_at-given.ensures)) in
    yields_ok brought_view c.both_read-rows.result _ (brought_in ts) read c.in_ok-object_type.was
