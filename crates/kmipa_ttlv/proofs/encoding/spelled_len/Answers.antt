use Rattle.kmipa_ttlv.specs.ItemTree.{tree}
use Rattle.kmipa_ttlv.proofs.SpellLemmas.{measured_len, measured_some}
use Rattle.kmipa_ttlv.proofs.encoding.spelled_len.Goals as goal

pub returns-clause-spelled : goal.returns-clause-spelled
returns-clause-spelled c = measured_len (tree c.args.item.now) c.spelled_within.result c.spelled_within.ensures

pub returns-clause-legal : goal.returns-clause-legal
returns-clause-legal c = λ legal. measured_some (tree c.args.item.now) c.spelled_within.result legal c.spelled_within.ensures
