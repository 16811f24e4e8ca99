use Rattle.std.proofs.Common.{◌≤◌, length, map}
use Rattle.kmipa_record.specs.Entries.{entry_of}
use Rattle.kmipa_explain.proofs.IndexLemmas.{IndexesFrom}
use Rattle.kmipa_explain.proofs.entry_index.EntryIndex.of.Given as goal

abbrev pub invariant-entries : goal.invariant-entries
invariant-entries l = record { from : IndexesFrom (map entry_of l.entries) l.place l.index; within : l.place ≤ length l.entries }

abbrev pub decreases-entries : goal.decreases-entries
decreases-entries l = l.place
