use Rattle.std.proofs.Common.{◌≡◌, take}
use Rattle.std.specs.List.{fold}
use Rattle.kmipa_store.specs.Hashes.{number_on}
use Rattle.kmipa_store.proofs.hashes.id_number.Given as goal

abbrev pub invariant-loop-byte : goal.invariant-loop-byte
invariant-loop-byte l = l.number ≡ fold number_on 0 (take l.byte-index l.last)
