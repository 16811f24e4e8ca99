use Rattle.std.specs.Prelude.{Ok}
use Rattle.std.proofs.Common.{◌∙◌, ap, rules}
use Rattle.kmipa_ttlv.specs.ViewTree.{view_trees}
use Rattle.kmipa_attrs.specs.Fields.{at, in_field, value_in, as_enumeration}
use Rattle.kmipa_attrs.specs.Filters.{filter_of, filter_in}
use Rattle.kmipa_attrs.specs.ObjectTypes.{type_of}
use Rattle.kmipa_attrs.specs.Tags.{object_type_tag}
use Rattle.kmipa_msgs.specs.declared.kind.OutsideKind.TheVariants.{ObjectType, Missing}
use Rattle.kmipa_msgs.specs.Kinds.{kind_number}
use Rattle.kmipa_msgs.specs.Locates.{filter_kind, locate_in}
use Rattle.kmipa_msgs.specs.Messages.{locate_of}
use Rattle.kmipa_msgs.specs.Tables.{unless_wrong, unless_unlisted}
use Rattle.kmipa_msgs.proofs.LocateLemmas.{locate_view, seen_locate}
use Rattle.kmipa_msgs.proofs.ViewLemmas.{joined}
use Rattle.kmipa_msgs.proofs.YieldsLemmas.{yields_both, yields_err, yields_ok}
use Rattle.kmipa_msgs.proofs.reading.locate.read_locate.Goals as goal

pub returns-in_err-filter : goal.returns-in_err-filter
returns-in_err-filter c =
    let ts = view_trees c.args.payload in
    let count = c.unless_wrong-count.ensures ∙ ap (λ f. unless_wrong f Missing) c.integer_at-maximum.ensures in
    let shape = joined kind_number _ _ c.both-shape.result _ _ c.both-shape.ensures count (c.attributes_shape.ensures ∙ ap (λ f. unless_wrong f Missing) c.structure_at-given.ensures) in
    let inner = c.children_in-inner.ensures ∙ ap in_field c.structure_at-given.ensures in
    let known = c.type_known.ensures ∙ ap (λ us. unless_unlisted (at as_enumeration object_type_tag us) type_of ObjectType) inner in
    let plain = joined kind_number _ _ c.both-plain.result _ _ c.both-plain.ensures shape known in
    let us = view_trees c.children_in-inner.result in
    let read =
    yields_both filter_of locate_view c.both-plain.result c.sought-filter.result c.both_read.result (filter_kind (filter_in c.value.result c.has_unknown.result us)) (locate_in ts) c.both_read.ensures c.sought-filter.ensures
    (λ filter g rows e. seen_locate ts us c.value.result c.has_unknown.result c.both-plain.result filter rows e plain inner (c.value.ensures ∙ ap value_in c.integer_at-maximum.ensures) c.has_unknown.ensures g) in
    yields_err locate_view locate_of c.both_read.result c.in_err-filter.field-0.0 c.from_residual.result (locate_in ts) read c.in_err-filter.was (search rules)

pub returns : goal.returns
returns c =
    let ts = view_trees c.args.payload in
    let count = c.unless_wrong-count.ensures ∙ ap (λ f. unless_wrong f Missing) c.integer_at-maximum.ensures in
    let shape = joined kind_number _ _ c.both-shape.result _ _ c.both-shape.ensures count (c.attributes_shape.ensures ∙ ap (λ f. unless_wrong f Missing) c.structure_at-given.ensures) in
    let inner = c.children_in-inner.ensures ∙ ap in_field c.structure_at-given.ensures in
    let known = c.type_known.ensures ∙ ap (λ us. unless_unlisted (at as_enumeration object_type_tag us) type_of ObjectType) inner in
    let plain = joined kind_number _ _ c.both-plain.result _ _ c.both-plain.ensures shape known in
    let us = view_trees c.children_in-inner.result in
    let read =
    yields_both filter_of locate_view c.both-plain.result c.sought-filter.result c.both_read.result (filter_kind (filter_in c.value.result c.has_unknown.result us)) (locate_in ts) c.both_read.ensures c.sought-filter.ensures
    (λ filter g rows e. seen_locate ts us c.value.result c.has_unknown.result c.both-plain.result filter rows e plain inner (c.value.ensures ∙ ap value_in c.integer_at-maximum.ensures) c.has_unknown.ensures g) in
    ap (λ q. Ok (filter_of q)) c.in_ok-new.ensures.ok ∙ yields_ok locate_view c.both_read.result _ (locate_in ts) read c.in_ok-filter.was
