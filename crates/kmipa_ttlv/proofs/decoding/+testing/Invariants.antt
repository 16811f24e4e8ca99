use Rattle.std.proofs.Common.{◌≡◌, ◌+◌, ◌*◌, length}
use Rattle.kmipa_ttlv.specs.Tree.{Trees}
use Rattle.kmipa_ttlv.specs.Spelling.{Run}
use Rattle.kmipa_ttlv.proofs.decoding.+testing.Given as goal

abbrev pub decreases-test_child : goal.decreases-test_child
decreases-test_child l = 3 * l.left

abbrev pub decreases-test_children : goal.decreases-test_children
decreases-test_children l = 3 * l.left + 1

abbrev pub decreases-test_value : goal.decreases-test_value
decreases-test_value l = 3 * l.left + 2

abbrev pub invariant-test_children-loop-rest : goal.invariant-test_children-loop-rest
invariant-test_children-loop-rest l = record {
  run : (before : Trees) × Run l.left before l.bytes l.rest;
  after : l.at + length l.rest ≡ l.place + length l.bytes;
}

abbrev pub decreases-test_children-loop-rest : goal.decreases-test_children-loop-rest
decreases-test_children-loop-rest l = length l.rest
