use Rattle.kmipa_ttlv.specs.ViewTree.{view_tree}
use Rattle.kmipa_ttlv.proofs.ReadLemmas.{reported_value, whole_spelled}
use Rattle.std.proofs.Common.{refl}
use Rattle.kmipa_ttlv.proofs.reading.tested.Goals as goal

pub returns-in-Ok-clause-item : goal.returns-in-Ok-clause-item
returns-in-Ok-clause-item c =
    let found = c.in-Ok.ensures.found in
    whole_spelled (view_tree c.in-Ok.view) c.in-Ok.field-0-1 c.args.bytes.now c.requires found.0 found.1

pub returns-in-Err-clause-fault : goal.returns-in-Err-clause-fault
returns-in-Err-clause-fault c = λ ended failed.
    reported_value c.args.bytes.now c.args.bytes.now c.args.place ended failed c.in-Err.fault c.placed.result c.placed.ensures refl c.requires c.in-Err.ensures.flaw
