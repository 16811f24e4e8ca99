use Rattle.std.proofs.Common.{◌-◌, length, map}
use Rattle.kmipa_explain.specs.Reading.{seen_item}
use Rattle.kmipa_explain.specs.Stories.{makes_it}
use Rattle.kmipa_explain.proofs.KeptLemmas.{SoughtFrom}
use Rattle.kmipa_explain.proofs.story.birth_behind.Given as goal

abbrev pub invariant-items : goal.invariant-items
invariant-items l = SoughtFrom (makes_it l.id) (map seen_item l.items) l.first l.place

abbrev pub decreases-items : goal.decreases-items
decreases-items l = length l.items - l.place
