use Rattle.std.proofs.Common.{◌≡◌, ◌+◌, length, map}
use Rattle.kmipa_ttlv.specs.ViewTree.{view_trees}
use Rattle.kmipa_attrs.specs.Fields.{every}
use Rattle.kmipa_attrs.specs.Tags.{batch_item}
use Rattle.kmipa_places.specs.Places.{place_of}
use Rattle.kmipa_places.specs.Readings.{places_in}
use Rattle.kmipa_places.proofs.ListLemmas.{behind}
use Rattle.kmipa_places.proofs.reading.read_places.Given as goal

-- the places so far, and those of the items that are left, are all
abbrev pub invariant-items : goal.invariant-items
invariant-items l =
    behind (map place_of l.places.items)
    (places_in l.unordered l.asides (length l.places.items + 1) (every batch_item (view_trees l.asks)) (every batch_item (view_trees l.answers)))
    ≡ places_in l.unordered l.asides 1 (every batch_item (view_trees l.asked)) (every batch_item (view_trees l.answered))

abbrev pub decreases-items : goal.decreases-items
decreases-items l = length (every batch_item (view_trees l.asks))
