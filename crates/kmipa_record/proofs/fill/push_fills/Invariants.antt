use Rattle.std.proofs.Common.{◌≡◌, ◌++◌, map, take}
use Rattle.kmipa_ttlv.specs.ItemTree.{tree}
use Rattle.kmipa_record.specs.Witnesses.{fill_of, fill_item}
use Rattle.kmipa_record.proofs.fill.push_fills.Given as goal

abbrev pub invariant-loop-fill : goal.invariant-loop-fill
invariant-loop-fill l = map tree l.children.items ≡ map tree l.fn.children.items ++ map (λ fill. fill_item (fill_of fill)) (take l.fill-index l.fills)
