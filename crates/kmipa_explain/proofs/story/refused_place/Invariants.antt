use Rattle.std.proofs.Common.{◌-◌, length, map}
use Rattle.kmipa_explain.specs.Reading.{is_that, seen_item}
use Rattle.kmipa_explain.proofs.KeptLemmas.{NoneBelow}
use Rattle.kmipa_explain.proofs.story.refused_place.Given as goal

abbrev pub invariant-items : goal.invariant-items
invariant-items l = NoneBelow (is_that l.refused) (map seen_item l.items) l.place

abbrev pub decreases-items : goal.decreases-items
decreases-items l = length l.items - l.place
