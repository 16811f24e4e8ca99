use Rattle.std.proofs.Common.{◌≡◌, ◌++◌, drop, map}
use Rattle.kmipa_record.specs.Entries.{entry_of}
use Rattle.kmipa_aside.specs.Sights.{owned_of}
use Rattle.kmipa_trail.specs.Owners.{owners_declared}
use Rattle.kmipa_trail.proofs.owners.owners_declared.Given as goal

abbrev pub invariant-loop-entry : goal.invariant-loop-entry
invariant-loop-entry l = map owned_of l.owners.items ++ owners_declared (drop l.entry-index (map entry_of l.entries)) ≡ owners_declared (map entry_of l.entries)
