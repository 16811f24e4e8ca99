use Rattle.std.proofs.Common.{◌≡◌, ◌++◌, map, take}
use Rattle.kmipa_ttlv.specs.ItemTree.{tree}
use Rattle.kmipa_record.specs.Witnesses.{birth_of, birth_item}
use Rattle.kmipa_record.proofs.birth.push_births.Given as goal

abbrev pub invariant-loop-birth : goal.invariant-loop-birth
invariant-loop-birth l = map tree l.children.items ≡ map tree l.fn.children.items ++ map (λ birth. birth_item (birth_of birth)) (take l.birth-index l.births)
