use Rattle.std.proofs.Common.{map, take}
use Rattle.std.specs.Prelude.{All}
use Rattle.kmipa_record.specs.DeclarationWriting.{AreNoted, MayStand, ids_of}
use Rattle.kmipa_record.specs.Entries.{entry_of}
use Rattle.kmipa_record.proofs.declaration_testing.test_entries.Given as goal

abbrev pub invariant-loop-entry : goal.invariant-loop-entry
invariant-loop-entry l = All MayStand (map entry_of (take l.entry-index l.entries)) × AreNoted l.identifiers (ids_of (map entry_of (take l.entry-index l.entries)))
