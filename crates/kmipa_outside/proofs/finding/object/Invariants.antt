use Rattle.std.proofs.Common.{◌≡◌}
use Rattle.kmipa_ttlv.specs.ViewTree.{view_trees}
use Rattle.kmipa_ttlv.specs.Written.{sizes}
use Rattle.kmipa_msgs.specs.Objects.{object_in}
use Rattle.kmipa_outside.proofs.finding.object.Given as goal

abbrev pub invariant-children : goal.invariant-children
invariant-children l = object_in (view_trees l.payload) ≡ object_in (view_trees l.left)

abbrev pub decreases-children : goal.decreases-children
decreases-children l = sizes (view_trees l.left)
