use Rattle.std.proofs.Common.{◌≡◌}
use Rattle.kmipa_ttlv.specs.ViewTree.{view_trees}
use Rattle.kmipa_ttlv.specs.Written.{sizes}
use Rattle.kmipa_attrs.specs.Attributes.{tells_of_life}
use Rattle.kmipa_attrs.proofs.reading.tells_of_life.Given as goal

abbrev pub invariant-children : goal.invariant-children
invariant-children l = tells_of_life (view_trees l.fn.children) ≡ tells_of_life (view_trees l.left)

abbrev pub decreases-children : goal.decreases-children
decreases-children l = sizes (view_trees l.left)
