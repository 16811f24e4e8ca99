use Rattle.std.proofs.Common.{◌≡◌, length, Some}
use Rattle.std.specs.Option.{option_map}
use Rattle.kmipa_ttlv.specs.ViewTree.{view_trees}
use Rattle.kmipa_attrs.specs.Fields.{every}
use Rattle.kmipa_attrs.specs.Tags.{batch_item}
use Rattle.kmipa_places.specs.Unread.{some_pending}
use Rattle.kmipa_places.proofs.unread.some_pending.Given as goal

-- none so far is still to come
abbrev pub invariant-items : goal.invariant-items
invariant-items l = some_pending (Some (every batch_item (view_trees l.left))) ≡ some_pending (option_map (λ c. every batch_item (view_trees c)) l.answers)

abbrev pub decreases-items : goal.decreases-items
decreases-items l = length (every batch_item (view_trees l.left))
