use Rattle.std.proofs.Common.{◌≡◌, ◌≤◌, ◌+◌, ◌*◌, ◌++◌, drop, vec_len, vec_capacity}
use Rattle.kmipa_ttlv.specs.ItemTree.{trees}
use Rattle.kmipa_ttlv.specs.Written.{AllLegal, sizes, spellings}
use Rattle.kmipa_ttlv.proofs.encoding.+writing.Given as goal

abbrev pub decreases-put_item : goal.decreases-put_item
decreases-put_item l = 2 * l.left

abbrev pub decreases-put_structure : goal.decreases-put_structure
decreases-put_structure l = 2 * l.left + 1

abbrev pub invariant-put_structure-loop-child : goal.invariant-put_structure-loop-child
invariant-put_structure-loop-child l = record {
  written : l.out.items ++ spellings (trees (drop l.child-index l.children)) ≡ l.initial.out.items ++ spellings (trees l.children);
  len : vec_len l.out + sizes (trees (drop l.child-index l.children)) ≡ vec_len l.initial.out + sizes (trees l.children);
  capacity : vec_capacity l.initial.out ≤ vec_capacity l.out;
  legal : AllLegal l.left (trees (drop l.child-index l.children));
}
