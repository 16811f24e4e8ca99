use Rattle.std.proofs.Common.{◌≡◌, ◌++◌, map, length}
use Rattle.kmipa_ttlv.specs.ViewTree.{view_trees}
use Rattle.kmipa_record.specs.WitnessReading.{list_of}
use Rattle.kmipa_record.specs.Witnesses.{birth_of, birth_item, AreBirths}
use Rattle.kmipa_record.proofs.birth.births_before.Given as goal

abbrev pub invariant-births : goal.invariant-births
invariant-births l = (list_of (view_trees l.children) ≡ map birth_item (map birth_of l.births.items) ++ list_of (view_trees l.left)) × AreBirths (map birth_of l.births.items)

abbrev pub decreases-births : goal.decreases-births
decreases-births l = length (list_of (view_trees l.left))
