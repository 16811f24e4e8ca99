use Rattle.std.proofs.Common.{ℕ, List, ◌++◌, map, take, string_bytes}
use Rattle.kmipa_record.specs.DeclarationWriting.{AreNoted}
use Rattle.kmipa_record.proofs.declaration_testing.test_asides.Given as goal

abbrev pub invariant-loop-id : goal.invariant-loop-id
invariant-loop-id l = (ids : List (List ℕ)) → AreNoted l.fn.identifiers ids → AreNoted l.identifiers (ids ++ map string_bytes (take l.id-index l.asides))
