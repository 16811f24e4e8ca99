use Rattle.std.proofs.Common.{length}
use Rattle.kmipa_ttlv.specs.ViewTree.{view_trees}
use Rattle.kmipa_attrs.specs.Fields.{every}
use Rattle.kmipa_attrs.specs.Tags.{batch_item}
use Rattle.kmipa_places.proofs.FitLemmas.{FitOn}
use Rattle.kmipa_places.proofs.fit.are_fit.Given as goal

-- the answers so far fit
abbrev pub invariant-items : goal.invariant-items
invariant-items l =
    FitOn (every batch_item (view_trees l.asks)) (every batch_item (view_trees l.left)) (every batch_item (view_trees l.asked)) (every batch_item (view_trees l.answered))

abbrev pub decreases-items : goal.decreases-items
decreases-items l = length (every batch_item (view_trees l.left))
