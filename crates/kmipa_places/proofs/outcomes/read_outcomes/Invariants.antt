use Rattle.std.proofs.Common.{◌≡◌, length}
use Rattle.kmipa_ttlv.specs.ViewTree.{view_trees}
use Rattle.kmipa_attrs.specs.Fields.{every}
use Rattle.kmipa_attrs.specs.Tags.{batch_item}
use Rattle.kmipa_places.specs.Readings.{outcomes_in}
use Rattle.kmipa_places.proofs.ListLemmas.{behind}
use Rattle.kmipa_places.proofs.outcomes.read_outcomes.Given as goal

-- the outcomes so far, and those of the items that are left, are all
abbrev pub invariant-items : goal.invariant-items
invariant-items l = behind l.outcomes.items (outcomes_in (every batch_item (view_trees l.left))) ≡ outcomes_in (every batch_item (view_trees l.children))

abbrev pub decreases-items : goal.decreases-items
decreases-items l = length (every batch_item (view_trees l.left))
