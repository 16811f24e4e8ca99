use Rattle.std.proofs.Common.{map, take}
use Rattle.kmipa_record.specs.Witnesses.{turn_of}
use Rattle.kmipa_record.specs.Writing.{IsLowest}
use Rattle.kmipa_record.proofs.witness_writing.lowest.Given as goal

abbrev pub invariant-loop-turn : goal.invariant-loop-turn
invariant-loop-turn l = IsLowest l.version (map turn_of (take l.turn-index l.turns))
