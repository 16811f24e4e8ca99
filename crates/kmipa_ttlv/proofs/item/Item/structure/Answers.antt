use Rattle.kmipa_ttlv.proofs.ItemTreeLemmas.{tree_of_structure}
use Rattle.kmipa_ttlv.proofs.item.Item.structure.Goals as goal

pub returns : goal.returns
returns c = tree_of_structure c.args.tag.number c.args.children
