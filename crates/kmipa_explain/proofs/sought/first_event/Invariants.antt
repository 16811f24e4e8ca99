use Rattle.std.proofs.Common.{◌-◌, length, map}
use Rattle.kmipa_explain.specs.Reading.{seen_item, test_of}
use Rattle.kmipa_explain.proofs.KeptLemmas.{SoughtFrom}
use Rattle.kmipa_explain.proofs.sought.first_event.Given as goal

abbrev pub invariant-items : goal.invariant-items
invariant-items l = SoughtFrom (test_of l.now l.id l.sought) (map seen_item l.ahead) 0 l.place

abbrev pub decreases-items : goal.decreases-items
decreases-items l = length l.ahead - l.place
