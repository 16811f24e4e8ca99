use Rattle.std.proofs.Common.{map, take}
use Rattle.kmipa_record.specs.Entries.{entry_of}
use Rattle.kmipa_record.specs.Writing.{AreUnowned}
use Rattle.kmipa_record.proofs.declaration_writing.are_unowned.Given as goal

abbrev pub invariant-loop-entry : goal.invariant-loop-entry
invariant-loop-entry l = AreUnowned (map entry_of (take l.entry-index l.entries))
