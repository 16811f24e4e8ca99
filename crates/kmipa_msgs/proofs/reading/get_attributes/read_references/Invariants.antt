use Rattle.std.proofs.Common.{◌≡◌, ◌++◌, length}
use Rattle.kmipa_ttlv.specs.ViewTree.{view_trees}
use Rattle.kmipa_attrs.specs.Fields.{every}
use Rattle.kmipa_attrs.specs.Tags.{attribute_reference}
use Rattle.kmipa_msgs.specs.GetsAttributes.{references}
use Rattle.kmipa_msgs.proofs.reading.get_attributes.read_references.Given as goal

abbrev pub invariant-children : goal.invariant-children
invariant-children l = references (view_trees l.payload) ≡ l.tags.items ++ references (view_trees l.left)

abbrev pub decreases-children : goal.decreases-children
decreases-children l = length (every attribute_reference (view_trees l.left))
