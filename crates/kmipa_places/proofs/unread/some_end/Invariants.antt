use Rattle.std.proofs.Common.{◌≡◌, length}
use Rattle.kmipa_ttlv.specs.ViewTree.{view_trees}
use Rattle.kmipa_attrs.specs.Fields.{every}
use Rattle.kmipa_attrs.specs.Tags.{batch_item}
use Rattle.kmipa_places.specs.Unread.{some_end}
use Rattle.kmipa_places.proofs.unread.some_end.Given as goal

-- none so far ends judging
abbrev pub invariant-items : goal.invariant-items
invariant-items l = some_end (every batch_item (view_trees l.left)) ≡ some_end (every batch_item (view_trees l.children))

abbrev pub decreases-items : goal.decreases-items
decreases-items l = length (every batch_item (view_trees l.left))
