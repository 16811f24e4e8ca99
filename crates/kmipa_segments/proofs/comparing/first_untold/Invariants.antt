use Rattle.std.proofs.Common.{◌-◌, length, map}
use Rattle.kmipa_record.specs.Entries.{EntryOf, entry_of}
use Rattle.kmipa_segments.specs.Comparing.{HasObject, IsLive}
use Rattle.kmipa_segments.proofs.CompareLemmas.{EachBefore}
use Rattle.kmipa_segments.proofs.comparing.first_untold.Given as goal

abbrev pub invariant-left : goal.invariant-left
invariant-left l = EachBefore (λ (e : EntryOf). IsLive e → HasObject (map entry_of l.told) e.id) (map entry_of l.left) l.place

abbrev pub decreases-left : goal.decreases-left
decreases-left l = length l.left - l.place
