use Rattle.std.proofs.Common.{◌≡◌, length}
use Rattle.kmipa_ttlv.specs.ViewTree.{view_trees}
use Rattle.kmipa_attrs.specs.Fields.{every}
use Rattle.kmipa_attrs.specs.Tags.{batch_item}
use Rattle.kmipa_places.specs.Outcomes.{some_unread}
use Rattle.kmipa_places.proofs.unreadable.some_unread.Given as goal

-- the status of each so far can be read
abbrev pub invariant-items : goal.invariant-items
invariant-items l = some_unread (every batch_item (view_trees l.left)) ≡ some_unread (every batch_item (view_trees l.children))

abbrev pub decreases-items : goal.decreases-items
decreases-items l = length (every batch_item (view_trees l.left))
