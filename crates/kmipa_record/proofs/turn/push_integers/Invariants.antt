use Rattle.std.proofs.Common.{◌≡◌, ◌++◌, map, take}
use Rattle.kmipa_ttlv.specs.ItemTree.{tree}
use Rattle.kmipa_record.specs.WitnessReading.{integer_item}
use Rattle.kmipa_record.proofs.turn.push_integers.Given as goal

abbrev pub invariant-loop-number : goal.invariant-loop-number
invariant-loop-number l = map tree l.children.items ≡ map tree l.fn.children.items ++ map (integer_item l.tag) (take l.number-index l.numbers)
