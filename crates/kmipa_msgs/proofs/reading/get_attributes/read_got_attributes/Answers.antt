use Rattle.std.proofs.Common.{◌∙◌, ap, rules}
use Rattle.kmipa_ttlv.specs.ViewTree.{view_trees}
use Rattle.kmipa_attrs.specs.Fields.{in_field, map_field}
use Rattle.kmipa_attrs.specs.Sets.{attributes_of}
use Rattle.kmipa_attrs.specs.declared.side.Side.TheVariants.{Server}
use Rattle.kmipa_msgs.specs.AttributeFields.{given_in}
use Rattle.kmipa_msgs.specs.GetsAttributes.{got_attributes_in}
use Rattle.kmipa_msgs.specs.Messages.{got_attributes_of}
use Rattle.kmipa_msgs.proofs.GetAttributesLemmas.{got_attributes_view, seen_got_attributes}
use Rattle.kmipa_msgs.proofs.YieldsLemmas.{yields_both, yields_err}
use Rattle.kmipa_msgs.proofs.reading.get_attributes.read_got_attributes.Goals as goal

pub returns-in_err-id : goal.returns-in_err-id
returns-in_err-id c =
    let ts = view_trees c.args.payload in
    let read =
    yields_both attributes_of got_attributes_view c.both.result c.read_attributes-attributes.result c.both_read.result (given_in Server (map_field view_trees c.structure_at-given.result)) (got_attributes_in ts) c.both_read.ensures c.read_attributes-attributes.ensures
    (λ given g rows e. seen_got_attributes ts (view_trees c.children_in.result) c.type_known-type_known.result c.read_identifier-id.result c.both.result given rows e c.both.ensures c.type_known-type_known.ensures (c.children_in.ensures ∙ ap in_field c.structure_at-given.ensures) c.read_identifier-id.ensures (g ∙ ap (given_in Server) c.structure_at-given.ensures)) in
    yields_err got_attributes_view got_attributes_of c.both_read.result c.in_err-id.field-0.0 c.from_residual.result (got_attributes_in ts) read c.in_err-id.was (search rules)
