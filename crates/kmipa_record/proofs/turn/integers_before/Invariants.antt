use Rattle.std.proofs.Common.{◌≡◌, ◌++◌, map, length}
use Rattle.kmipa_ttlv.specs.ViewTree.{view_trees}
use Rattle.kmipa_record.specs.WitnessReading.{list_of, integer_item}
use Rattle.kmipa_record.proofs.turn.integers_before.Given as goal

abbrev pub invariant-numbers : goal.invariant-numbers
invariant-numbers l = list_of (view_trees l.children) ≡ map (integer_item l.tag) l.numbers.items ++ list_of (view_trees l.left)

abbrev pub decreases-numbers : goal.decreases-numbers
decreases-numbers l = length (list_of (view_trees l.left))
