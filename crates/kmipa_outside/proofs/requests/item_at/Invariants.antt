use Rattle.std.proofs.Common.{◌≡◌, slice_get}
use Rattle.kmipa_ttlv.specs.ViewTree.{view_trees}
use Rattle.kmipa_attrs.specs.Fields.{every}
use Rattle.kmipa_attrs.specs.Tags.{batch_item}
use Rattle.kmipa_outside.proofs.requests.item_at.Given as goal

abbrev pub invariant-children : goal.invariant-children
invariant-children l = slice_get (every batch_item (view_trees l.message)) l.place ≡ slice_get (every batch_item (view_trees l.left)) l.ahead

abbrev pub decreases-children : goal.decreases-children
decreases-children l = l.ahead
