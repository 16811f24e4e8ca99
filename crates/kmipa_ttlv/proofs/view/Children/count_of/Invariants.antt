use Rattle.std.proofs.Common.{◌≡◌, ◌+◌, length}
use Rattle.kmipa_ttlv.specs.Tree.{every}
use Rattle.kmipa_ttlv.specs.ViewTree.{view_trees}
use Rattle.kmipa_ttlv.proofs.view.Children.count_of.Given as goal

-- those that were counted and those that are left are all
abbrev pub invariant-children : goal.invariant-children
invariant-children l = l.count + length (every l.tag (view_trees l.left)) ≡ length (every l.tag (view_trees l.fn.self))

abbrev pub decreases-children : goal.decreases-children
decreases-children l = length (every l.tag (view_trees l.left))
