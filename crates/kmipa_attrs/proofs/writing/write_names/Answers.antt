use Rattle.std.proofs.Common.{◌∙◌, ap}
use Rattle.kmipa_ttlv.specs.ItemTree.{trees}
use Rattle.kmipa_attrs.specs.Writing.{written_name}
use Rattle.kmipa_attrs.proofs.WriteLemmas.{names_written}
use Rattle.kmipa_attrs.proofs.writing.write_names.Goals as goal

pub loop-name-preserved : goal.loop-name-preserved
loop-name-preserved c =
    ap trees c.in_ok-push.ensures.items
    ∙ names_written (written_name c.args.short) c.loop-name.name-index c.args.names.now c.name-item.result c.loop-name.items.items c.in_ok-write_name.field-0 c.loop-name-test.true c.name-item.is c.in_ok-write_name.ensures c.loop-name.invariant
