use Rattle.std.proofs.Common.{◌≡◌}
use Rattle.kmipa_ttlv.specs.ViewTree.{view_trees}
use Rattle.kmipa_ttlv.specs.Written.{sizes}
use Rattle.kmipa_attrs.specs.Filters.{has_other}
use Rattle.kmipa_attrs.proofs.filtering.has_other.Given as goal

abbrev pub invariant-children : goal.invariant-children
invariant-children l = has_other (view_trees l.fn.children) ≡ has_other (view_trees l.left)

abbrev pub decreases-children : goal.decreases-children
decreases-children l = sizes (view_trees l.left)
