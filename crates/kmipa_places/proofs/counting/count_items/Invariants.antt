use Rattle.std.proofs.Common.{◌≤◌, ◌+◌, length}
use Rattle.kmipa_ttlv.specs.ViewTree.{view_trees}
use Rattle.kmipa_attrs.specs.Fields.{every}
use Rattle.kmipa_attrs.specs.Tags.{batch_item}
use Rattle.kmipa_places.specs.Counting.{unread_counts_of}
use Rattle.kmipa_places.specs.Openings.{total_unread}
use Rattle.kmipa_places.proofs.CountingLemmas.{CountsOn}
use Rattle.kmipa_places.proofs.counting.count_items.Given as goal

-- what is counted so far leaves what the items that are left count, and no item counts twice
abbrev pub invariant-items : goal.invariant-items
invariant-items l =
    CountsOn l.unordered l.unread (every batch_item (view_trees l.asked)) (every batch_item (view_trees l.answered)) (unread_counts_of l.counts)
    (every batch_item (view_trees l.asks)) (every batch_item (view_trees l.answers))
    × (total_unread (unread_counts_of l.counts) + length (every batch_item (view_trees l.asks)) ≤ length (every batch_item (view_trees l.asked)))

abbrev pub decreases-items : goal.decreases-items
decreases-items l = length (every batch_item (view_trees l.asks))
