use Rattle.std.proofs.Common.{◌-◌, bytes_eq, length, map}
use Rattle.kmipa_record.specs.Entries.{EntryOf, entry_of}
use Rattle.kmipa_explain.proofs.KeptLemmas.{SoughtFrom}
use Rattle.kmipa_explain.proofs.holding.entry_named.Given as goal

abbrev pub invariant-entries : goal.invariant-entries
invariant-entries l = SoughtFrom (λ (e : EntryOf). bytes_eq l.id e.id) (map entry_of l.entries) 0 l.place

abbrev pub decreases-entries : goal.decreases-entries
decreases-entries l = length l.entries - l.place
