use Rattle.kmipa_ttlv.specs.ViewTree.{view_tree, view_trees}
use Rattle.kmipa_attrs.proofs.AttrLemmas.{reads_item, reads_no_structure}
use Rattle.kmipa_attrs.proofs.reading.read_attrs.Goals as goal

pub returns-in-Some : goal.returns-in-Some
returns-in-Some c = reads_item c.args.side (view_tree c.args.item.now) (view_trees c.in-Some.children) c.read_children.result (c.in-Some.ensures) c.read_children.ensures

pub returns-in-None : goal.returns-in-None
returns-in-None c = reads_no_structure c.args.side (view_tree c.args.item.now) (c.in-None.ensures)
