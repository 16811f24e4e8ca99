use Rattle.kmipa_ttlv.specs.ViewTree.{view_tree, view_trees}
use Rattle.kmipa_check.specs.Grants.{grants_of}
use Rattle.kmipa_check.proofs.BornLemmas.{scalar_granted, structure_granted}
use Rattle.kmipa_check.proofs.completing.has_granted.Goals as goal

pub returns-in-Some : goal.returns-in-Some
returns-in-Some c = structure_granted (grants_of c.args.grants.now) (view_tree c.args.item.now) (view_trees c.in-Some.children) c.are_some_granted.result c.in-Some.ensures c.are_some_granted.ensures

pub returns-in-None : goal.returns-in-None
returns-in-None c = scalar_granted (grants_of c.args.grants.now) (view_tree c.args.item.now) c.in-None.ensures
