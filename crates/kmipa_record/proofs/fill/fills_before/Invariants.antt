use Rattle.std.proofs.Common.{◌≡◌, ◌++◌, map, length}
use Rattle.kmipa_ttlv.specs.ViewTree.{view_trees}
use Rattle.kmipa_record.specs.WitnessReading.{list_of}
use Rattle.kmipa_record.specs.Witnesses.{fill_of, fill_item, ArePayloads}
use Rattle.kmipa_record.proofs.fill.fills_before.Given as goal

abbrev pub invariant-fills : goal.invariant-fills
invariant-fills l = (list_of (view_trees l.children) ≡ map fill_item (map fill_of l.fills.items) ++ list_of (view_trees l.left)) × ArePayloads (map fill_of l.fills.items)

abbrev pub decreases-fills : goal.decreases-fills
decreases-fills l = length (list_of (view_trees l.left))
