use Rattle.std.proofs.Common.{◌-◌, length, map}
use Rattle.kmipa_record.specs.Entries.{entry_of}
use Rattle.kmipa_segments.specs.Comparing.{HasAlike}
use Rattle.kmipa_segments.proofs.CompareLemmas.{EachBefore}
use Rattle.kmipa_segments.proofs.comparing.first_misfit.Given as goal

abbrev pub invariant-told : goal.invariant-told
invariant-told l = EachBefore (HasAlike (map entry_of l.left)) (map entry_of l.told) l.place

abbrev pub decreases-told : goal.decreases-told
decreases-told l = length l.told - l.place
