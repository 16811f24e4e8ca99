use Rattle.kmipa_ttlv.specs.ViewTree.{view_tree}
use Rattle.kmipa_ttlv.proofs.ReadLemmas.{whole_spelled}
use Rattle.kmipa_record.proofs.record.view_of.Goals as goal

pub returns-in-Ok : goal.returns-in-Ok
returns-in-Ok c = whole_spelled (view_tree c.in-Ok.view) c.in-Ok.field-0-1 c.args.bytes.now c.requires c.in-Ok.ensures.found.0 c.in-Ok.ensures.found.1
