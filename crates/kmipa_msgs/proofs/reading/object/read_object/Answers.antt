use Rattle.kmipa_ttlv.specs.ViewTree.{view_tree, view_trees}
use Rattle.kmipa_msgs.proofs.ObjectLemmas.{no_shape, no_block, shape_at, block_at}
use Rattle.kmipa_msgs.proofs.reading.object.read_object.Goals as goal

pub returns-in-Some-clause-shape : goal.returns-in-Some-clause-shape
returns-in-Some-clause-shape c = shape_at (view_trees c.args.payload) c.in-Some.view c.shape_of.result c.in-Some.ensures c.shape_of.ensures

pub returns-in-Some-clause-block : goal.returns-in-Some-clause-block
returns-in-Some-clause-block c = block_at (view_trees c.args.payload) (view_trees c.block_of.result) (view_tree c.in-Some.view) c.block_of.ensures c.in-Some.ensures

pub returns-in-None-clause-shape : goal.returns-in-None-clause-shape
returns-in-None-clause-shape c = no_shape (view_trees c.args.payload) c.in-None.ensures

pub returns-in-None-clause-block : goal.returns-in-None-clause-block
returns-in-None-clause-block c = no_block (view_trees c.args.payload) (view_trees c.none.result) c.none.ensures c.in-None.ensures
