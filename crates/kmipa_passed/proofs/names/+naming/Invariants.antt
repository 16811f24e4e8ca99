use Rattle.std.proofs.Common.{◌≡◌, ◌≤◌, ◌+◌, ◌*◌, ◌++◌, map}
use Rattle.kmipa_ttlv.specs.ViewTree.{view_tree, view_trees}
use Rattle.kmipa_ttlv.specs.Written.{size, sizes}
use Rattle.kmipa_passed.specs.Names.{named_in}
use Rattle.kmipa_passed.proofs.names.+naming.Given as goal

abbrev pub decreases-push_child : goal.decreases-push_child
decreases-push_child l = 2 * size (view_tree l.child.now)

abbrev pub decreases-push_named : goal.decreases-push_named
decreases-push_named l = 2 * sizes (view_trees l.children) + 1

-- the names so far, and those of the children that are left, are all
abbrev pub invariant-push_named-children : goal.invariant-push_named-children
invariant-push_named-children l = record {
  together : map (λ s. s.now) l.names.items ++ named_in (view_trees l.left) ≡ map (λ s. s.now) l.initial.names.items ++ named_in (view_trees l.children);
  within : sizes (view_trees l.left) ≤ sizes (view_trees l.children);
}

abbrev pub decreases-push_named-children : goal.decreases-push_named-children
decreases-push_named-children l = sizes (view_trees l.left)
