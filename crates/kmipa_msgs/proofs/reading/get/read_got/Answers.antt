use Rattle.std.proofs.Common.{◌≡◌, Err, rules, ◌∙◌, sym, ap}
use Rattle.kmipa_ttlv.specs.ViewTree.{view_trees}
use Rattle.kmipa_attrs.specs.Readings.{map_ok}
use Rattle.kmipa_msgs.specs.Kinds.{kind_number}
use Rattle.kmipa_msgs.proofs.ViewLemmas.{joined}
use Rattle.kmipa_msgs.proofs.GetLemmas.{got_view, seen_got}
use Rattle.kmipa_msgs.proofs.reading.get.read_got.Goals as goal

pub returns-in_err-object_type : goal.returns-in_err-object_type
returns-in_err-object_type c =
    let types = joined kind_number _ _ c.both-types.result _ _ c.both-types.ensures c.type_shown.ensures c.read_object-shape.ensures.shape in
    let e : c.from_residual.result ≡ Err c.in_err-object_type.field-0.0 = search rules in
    rw e (
    ap (map_ok got_view) (sym c.in_err-object_type.was)
    ∙ seen_got (view_trees c.args.payload) (view_trees c.read_object-shape.result.1) c.both-types.result c.text_at.result c.optional-id.result c.both.result c.read_key_block-block.result c.both-2.result c.both-2.ensures c.both.ensures types c.text_at.ensures c.optional-id.ensures c.read_key_block-block.ensures c.read_object-shape.ensures.block
    )

pub returns : goal.returns
returns c =
    let types = joined kind_number _ _ c.both-types.result _ _ c.both-types.ensures c.type_shown.ensures c.read_object-shape.ensures.shape in
    ap (map_ok got_view) (sym c.in_ok-object_type.was)
    ∙ seen_got (view_trees c.args.payload) (view_trees c.read_object-shape.result.1) c.both-types.result c.text_at.result c.optional-id.result c.both.result c.read_key_block-block.result c.both-2.result c.both-2.ensures c.both.ensures types c.text_at.ensures c.optional-id.ensures c.read_key_block-block.ensures c.read_object-shape.ensures.block
