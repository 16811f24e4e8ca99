use Rattle.std.proofs.Common.{map, take}
use Rattle.std.specs.Prelude.{All}
use Rattle.kmipa_record.specs.Witnesses.{turn_of, turn_item}
use Rattle.kmipa_record.specs.Writing.{AddsAll, IsWritable}
use Rattle.kmipa_record.proofs.witness_writing.put_turns.Given as goal

abbrev pub invariant-loop-turn : goal.invariant-loop-turn
invariant-loop-turn l = AddsAll (map turn_item (map turn_of (take l.turn-index l.turns))) l.fn.out.items l.out.items × All IsWritable (map turn_of (take l.turn-index l.turns))
