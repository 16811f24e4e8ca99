use Rattle.std.proofs.Common.{◌-◌, ◌≢◌, length, map}
use Rattle.kmipa_record.specs.Entries.{EntryOf, entry_of}
use Rattle.kmipa_segments.proofs.CompareLemmas.{EachBefore}
use Rattle.kmipa_segments.proofs.comparing.look_through.Given as goal

abbrev pub invariant-entries : goal.invariant-entries
invariant-entries l = EachBefore (λ (e : EntryOf). e.id ≢ l.id) (map entry_of l.entries) l.place

abbrev pub decreases-entries : goal.decreases-entries
decreases-entries l = length l.entries - l.place
