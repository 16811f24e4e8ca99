use Rattle.std.proofs.Common.{map, take}
use Rattle.kmipa_record.specs.Writing.{AddsAll}
use Rattle.kmipa_record.proofs.append.append_all.Given as goal

abbrev pub invariant-loop-value : goal.invariant-loop-value
invariant-loop-value g l = AddsAll (map g.W.Written.item_of (take l.value-index l.values)) l.fn.out.items l.out.items
