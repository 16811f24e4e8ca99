use Rattle.std.proofs.Common.{◌≡◌}
use Rattle.kmipa_ttlv.specs.ViewTree.{view_trees}
use Rattle.kmipa_ttlv.specs.Written.{sizes}
use Rattle.kmipa_passed.specs.Identifiers.{names_unclearly}
use Rattle.kmipa_passed.proofs.identifiers.names_unclearly.Given as goal

-- what was passed is clear
abbrev pub invariant-children : goal.invariant-children
invariant-children l = names_unclearly (view_trees l.left) ≡ names_unclearly (view_trees l.payload)

abbrev pub decreases-children : goal.decreases-children
decreases-children l = sizes (view_trees l.left)
