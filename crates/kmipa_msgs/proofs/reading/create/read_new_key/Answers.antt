use Rattle.std.proofs.Common.{◌∙◌, ap, rules}
use Rattle.kmipa_ttlv.specs.ViewTree.{view_trees}
use Rattle.kmipa_attrs.specs.Fields.{at, in_field, map_field, as_enumeration}
use Rattle.kmipa_attrs.specs.ObjectTypes.{type_of}
use Rattle.kmipa_attrs.specs.Sets.{attributes_of}
use Rattle.kmipa_attrs.specs.Tags.{object_type_tag}
use Rattle.kmipa_attrs.specs.declared.side.Side.TheVariants.{Client}
use Rattle.kmipa_msgs.specs.declared.kind.OutsideKind.TheVariants.{ObjectType}
use Rattle.kmipa_msgs.specs.AttributeFields.{given_in}
use Rattle.kmipa_msgs.specs.Creates.{new_key_in}
use Rattle.kmipa_msgs.specs.Kinds.{kind_number}
use Rattle.kmipa_msgs.specs.Tables.{unless_unlisted}
use Rattle.kmipa_msgs.proofs.ViewLemmas.{joined}
use Rattle.kmipa_msgs.proofs.CreateLemmas.{new_key_view, seen_new_key}
use Rattle.kmipa_msgs.proofs.YieldsLemmas.{yields_both, yields_err, yields_ok}
use Rattle.kmipa_msgs.proofs.reading.create.read_new_key.Goals as goal

pub returns-in_err-attributes : goal.returns-in_err-attributes
returns-in_err-attributes c =
    let ts = view_trees c.args.payload in
    let us = view_trees c.children_in-inner.result in
    let inner = c.children_in-inner.ensures ∙ ap in_field c.structure_at-given.ensures in
    let known = c.type_known.ensures ∙ ap (λ vs. unless_unlisted (at as_enumeration object_type_tag vs) type_of ObjectType) inner in
    let types = joined kind_number _ _ c.both-types.result _ _ c.both-types.ensures c.type_created.ensures known in
    let plain = joined kind_number _ _ c.both-plain.result _ _ c.both-plain.ensures types c.described.ensures in
    let read =
    yields_both attributes_of new_key_view c.both-plain.result c.read_attributes.result c.both_read.result (given_in Client (map_field view_trees c.structure_at-given.result)) (new_key_in ts) c.both_read.ensures c.read_attributes.ensures
    (λ given g rows e. seen_new_key ts us c.both-plain.result given rows e plain inner (g ∙ ap (given_in Client) c.structure_at-given.ensures)) in
    yields_err new_key_view attributes_of c.both_read.result c.in_err-attributes.field-0.0 c.from_residual.result (new_key_in ts) read c.in_err-attributes.was (search rules)

pub returns : goal.returns
returns c =
    let ts = view_trees c.args.payload in
    let us = view_trees c.children_in-inner.result in
    let inner = c.children_in-inner.ensures ∙ ap in_field c.structure_at-given.ensures in
    let known = c.type_known.ensures ∙ ap (λ vs. unless_unlisted (at as_enumeration object_type_tag vs) type_of ObjectType) inner in
    let types = joined kind_number _ _ c.both-types.result _ _ c.both-types.ensures c.type_created.ensures known in
    let plain = joined kind_number _ _ c.both-plain.result _ _ c.both-plain.ensures types c.described.ensures in
    let read =
    yields_both attributes_of new_key_view c.both-plain.result c.read_attributes.result c.both_read.result (given_in Client (map_field view_trees c.structure_at-given.result)) (new_key_in ts) c.both_read.ensures c.read_attributes.ensures
    (λ given g rows e. seen_new_key ts us c.both-plain.result given rows e plain inner (g ∙ ap (given_in Client) c.structure_at-given.ensures)) in
    yields_ok new_key_view c.both_read.result _ (new_key_in ts) read c.in_ok-attributes.was
