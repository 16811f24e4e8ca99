use Rattle.kmipa_ttlv.specs.ItemTree.{tree}
use Rattle.kmipa_ttlv.proofs.SpellLemmas.{spelling_spells, spells_legal, measured_some}
use Rattle.kmipa_ttlv.proofs.encoding.encode.Goals as goal

pub unwrap-len-requires : goal.unwrap-len-requires
unwrap-len-requires c = measured_some (tree c.args.item.now) c.spelled_within.result (spells_legal (tree c.args.item.now) c.requires.0 c.requires.1) c.spelled_within.ensures

pub returns-clause-spelled : goal.returns-clause-spelled
returns-clause-spelled c =
    let m = rw c.unwrap-len.ensures at c.spelled_within.ensures in
    spelling_spells (tree c.args.item.now) m.0 m.2
