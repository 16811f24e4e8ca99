use Rattle.std.proofs.Common.{◌≡◌, ◌++◌, map, length}
use Rattle.kmipa_ttlv.specs.ViewTree.{view_trees}
use Rattle.kmipa_attrs.specs.Fields.{every}
use Rattle.kmipa_attrs.specs.Tags.{unique_identifier}
use Rattle.kmipa_passed.specs.Passed.{texts}
use Rattle.kmipa_passed.proofs.passed.texts_listed.Given as goal

-- the texts so far, and those of the children that are left, are all
abbrev pub invariant-children : goal.invariant-children
invariant-children l =
    map (λ s. s.now) l.ids.items ++ texts (every unique_identifier (view_trees l.left)) ≡ texts (every unique_identifier (view_trees l.payload))

abbrev pub decreases-children : goal.decreases-children
decreases-children l = length (every unique_identifier (view_trees l.left))
