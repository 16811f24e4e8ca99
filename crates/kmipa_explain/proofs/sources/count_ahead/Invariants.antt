use Rattle.std.proofs.Common.{◌-◌, length, map}
use Rattle.kmipa_explain.specs.Reading.{seen_item}
use Rattle.kmipa_explain.specs.Sources.{is_at}
use Rattle.kmipa_explain.proofs.AheadLemmas.{CountedTo}
use Rattle.kmipa_explain.proofs.sources.count_ahead.Given as goal

abbrev pub invariant-items : goal.invariant-items
invariant-items l = CountedTo (is_at l.refused) (map seen_item l.items) l.place

abbrev pub decreases-items : goal.decreases-items
decreases-items l = length l.items - l.place
