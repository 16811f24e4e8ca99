use Rattle.std.proofs.Common.{◌≡◌, length, map, Some}
use Rattle.kmipa_ttlv.specs.ViewTree.{view_trees}
use Rattle.kmipa_attrs.specs.Fields.{every}
use Rattle.kmipa_attrs.specs.Tags.{batch_item}
use Rattle.kmipa_places.specs.Unread.{together, touched_in}
use Rattle.kmipa_places.proofs.unread.touched_in.Given as goal

-- the objects so far, and those of the items that are left, are all
abbrev pub invariant-items : goal.invariant-items
invariant-items l =
    together (Some (map (λ s. s.now) l.ids.items)) (touched_in (every batch_item (view_trees l.left)) (every batch_item (view_trees l.answers)))
    ≡ touched_in (every batch_item (view_trees l.asked)) (every batch_item (view_trees l.answered))

abbrev pub decreases-items : goal.decreases-items
decreases-items l = length (every batch_item (view_trees l.left))
