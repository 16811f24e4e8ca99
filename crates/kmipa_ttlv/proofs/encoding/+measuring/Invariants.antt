use Rattle.std.proofs.Common.{◌+◌, ◌*◌, drop}
use Rattle.kmipa_ttlv.specs.ItemTree.{trees}
use Rattle.kmipa_ttlv.proofs.MeasureLemmas.{Rest}
use Rattle.kmipa_ttlv.proofs.encoding.+measuring.Given as goal

abbrev pub decreases-spelled_within : goal.decreases-spelled_within
decreases-spelled_within l = 3 * l.left

abbrev pub decreases-spelled_all : goal.decreases-spelled_all
decreases-spelled_all l = 3 * l.left + 1

abbrev pub decreases-value_len : goal.decreases-value_len
decreases-value_len l = 3 * l.left + 2

abbrev pub invariant-spelled_all-loop-item : goal.invariant-spelled_all-loop-item
invariant-spelled_all-loop-item l = Rest l.left l.all (trees (drop l.item-index l.items)) (trees l.items)
