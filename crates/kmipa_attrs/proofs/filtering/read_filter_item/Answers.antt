use Rattle.kmipa_ttlv.specs.ViewTree.{view_tree, view_trees}
use Rattle.kmipa_attrs.proofs.FilterLemmas.{reads_wanted, reads_no_filter}
use Rattle.kmipa_attrs.proofs.filtering.read_filter_item.Goals as goal

pub returns-in-Some : goal.returns-in-Some
returns-in-Some c = reads_wanted c.args.maximum c.args.is_unknown (view_tree c.args.item.now) (view_trees c.in-Some.children) c.read_filter_children.result (c.in-Some.ensures) c.read_filter_children.ensures

pub returns-in-None : goal.returns-in-None
returns-in-None c = reads_no_filter (view_tree c.args.item.now) (c.in-None.ensures)
