use Rattle.kmipa_ttlv.specs.ViewTree.{view_trees}
use Rattle.kmipa_ttlv.specs.Written.{sizes}
use Rattle.kmipa_check.specs.Grants.{grants_of}
use Rattle.kmipa_check.proofs.BornLemmas.{IsAsLeft}
use Rattle.kmipa_check.proofs.completing.are_granted.Given as goal

abbrev pub invariant-children : goal.invariant-children
invariant-children l = IsAsLeft (grants_of l.grants) (view_trees l.fn.children) (view_trees l.left)

abbrev pub decreases-children : goal.decreases-children
decreases-children l = sizes (view_trees l.left)
