use Rattle.kmipa_ttlv.specs.ViewTree.{view_tree, view_trees}
use Rattle.kmipa_msgs.proofs.ObjectLemmas.{no_structure}
use Rattle.kmipa_outside.proofs.finding.block_of.Goals as goal

pub returns-in-None : goal.returns-in-None
returns-in-None c = no_structure (view_trees c.none.result) (view_tree c.args.object.now) c.none.ensures c.in-None.ensures
