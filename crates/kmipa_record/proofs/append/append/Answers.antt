use Rattle.kmipa_ttlv.specs.ItemTree.{tree}
use Rattle.kmipa_ttlv.proofs.SpellLemmas.{spells_legal}
use Rattle.kmipa_record.proofs.append.append.Goals as goal

pub returns-in-Ok-clause-legal : goal.returns-in-Ok-clause-legal
returns-in-Ok-clause-legal c = spells_legal (tree c.args.item.now) _ c.in-Ok.ensures.spelled
