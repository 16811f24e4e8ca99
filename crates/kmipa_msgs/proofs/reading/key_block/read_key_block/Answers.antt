use Rattle.std.proofs.Common.{◌≡◌, Err, rules, ◌∙◌, sym, ap}
use Rattle.kmipa_ttlv.specs.ViewTree.{view_trees}
use Rattle.kmipa_attrs.specs.Fields.{at, in_field, as_enumeration, as_integer}
use Rattle.kmipa_attrs.specs.Readings.{map_ok}
use Rattle.kmipa_attrs.specs.Tags.{cryptographic_algorithm, cryptographic_length}
use Rattle.kmipa_msgs.specs.declared.kind.OutsideKind.TheVariants.{Format, Missing}
use Rattle.kmipa_msgs.specs.Kinds.{kind_number}
use Rattle.kmipa_msgs.specs.Tables.{there}
use Rattle.kmipa_msgs.proofs.ViewLemmas.{joined, optional_row}
use Rattle.kmipa_msgs.proofs.BlockLemmas.{plain_block_rows, block_view, seen_block}
use Rattle.kmipa_msgs.proofs.reading.key_block.read_key_block.Goals as goal

pub returns-in_err-format : goal.returns-in_err-format
returns-in_err-format c =
    let ts = view_trees c.args.block in
    let algorithm = optional_row c.enumeration_at.result (at as_enumeration cryptographic_algorithm ts) Missing c.optional-algorithm.result c.optional-algorithm.ensures c.enumeration_at.ensures in
    let bits = optional_row c.integer_at.result (at as_integer cryptographic_length ts) Missing c.optional-length.result c.optional-length.ensures c.integer_at.ensures in
    let described = joined kind_number _ _ c.both-2.result _ _ c.both-2.ensures (joined kind_number _ _ c.both.result _ _ c.both.ensures c.format.ensures algorithm) bits in
    let there = c.value_there.ensures ∙ ap (λ f. there f Missing Format) c.structure_at-value.ensures in
    let value = joined kind_number _ _ c.both-3.result _ _ c.both-3.ensures c.unless_there-unwrapped.ensures there in
    let plain : c.both-4.result ≡ plain_block_rows ts = joined kind_number _ _ c.both-4.result _ _ c.both-4.ensures described value in
    let e : c.from_residual.result ≡ Err c.in_err-format.field-0.0 = search rules in
    rw e (
    ap (map_ok block_view) (sym c.in_err-format.was)
    ∙ seen_block ts (view_trees c.children_in.result) c.both-4.result c.bytes_at.result c.needed-material.result c.both-rows.result c.both-rows.ensures plain (c.children_in.ensures ∙ ap in_field c.structure_at-value.ensures) c.bytes_at.ensures c.needed-material.ensures
    )
