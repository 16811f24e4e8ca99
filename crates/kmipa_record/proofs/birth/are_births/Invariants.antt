use Rattle.std.proofs.Common.{map, take}
use Rattle.kmipa_record.specs.Witnesses.{birth_of, AreBirths}
use Rattle.kmipa_record.proofs.birth.are_births.Given as goal

abbrev pub invariant-loop-birth : goal.invariant-loop-birth
invariant-loop-birth l = AreBirths (map birth_of (take l.birth-index l.births))
