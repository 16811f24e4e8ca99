use Rattle.std.proofs.Common.{◌≡◌, length, Some}
use Rattle.std.specs.Option.{option_map}
use Rattle.kmipa_ttlv.specs.ViewTree.{view_trees}
use Rattle.kmipa_attrs.specs.Fields.{every}
use Rattle.kmipa_attrs.specs.Tags.{batch_item}
use Rattle.kmipa_places.specs.Unread.{all_failed}
use Rattle.kmipa_places.proofs.unread.all_failed.Given as goal

-- each so far failed
abbrev pub invariant-items : goal.invariant-items
invariant-items l = all_failed (Some (every batch_item (view_trees l.left))) ≡ all_failed (option_map (λ c. every batch_item (view_trees c)) l.answers)

abbrev pub decreases-items : goal.decreases-items
decreases-items l = length (every batch_item (view_trees l.left))
