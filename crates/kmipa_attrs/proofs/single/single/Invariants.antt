use Rattle.std.proofs.Common.{◌≡◌, length}
use Rattle.kmipa_ttlv.specs.ViewTree.{view_trees}
use Rattle.kmipa_attrs.specs.Fields.{every}
use Rattle.kmipa_attrs.specs.Attributes.{single, folded, each}
use Rattle.kmipa_attrs.proofs.single.single.Given as goal

abbrev pub invariant-children : goal.invariant-children
invariant-children g l = single g.T.Held.how l.tag (view_trees l.fn.children) ≡ folded l.found (each g.T.Held.how l.tag (view_trees l.left))

abbrev pub decreases-children : goal.decreases-children
decreases-children g l = length (every l.tag (view_trees l.left))
