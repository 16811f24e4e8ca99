use Rattle.std.proofs.Common.{◌≡◌}
use Rattle.kmipa_ttlv.specs.ViewTree.{view_trees}
use Rattle.kmipa_ttlv.specs.Written.{sizes}
use Rattle.kmipa_msgs.specs.Locates.{some_unknown}
use Rattle.kmipa_msgs.proofs.reading.locate.some_unknown.Given as goal

abbrev pub invariant-children : goal.invariant-children
invariant-children l = some_unknown (view_trees l.payload) ≡ some_unknown (view_trees l.left)

abbrev pub decreases-children : goal.decreases-children
decreases-children l = sizes (view_trees l.left)
