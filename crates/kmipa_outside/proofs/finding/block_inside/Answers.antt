use Rattle.kmipa_ttlv.specs.ViewTree.{view_trees}
use Rattle.kmipa_msgs.proofs.ObjectLemmas.{no_block}
use Rattle.kmipa_outside.proofs.finding.block_inside.Goals as goal

pub returns-in-None : goal.returns-in-None
returns-in-None c = no_block (view_trees c.args.payload) (view_trees c.none.result) c.none.ensures c.in-None.ensures
