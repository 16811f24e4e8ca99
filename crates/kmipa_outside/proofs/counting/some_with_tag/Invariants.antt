use Rattle.std.proofs.Common.{◌≡◌, ◌+◌, ◌-◌, length}
use Rattle.kmipa_ttlv.specs.ViewTree.{view_trees}
use Rattle.kmipa_attrs.specs.Fields.{every}
use Rattle.kmipa_outside.specs.Demands.{some_fails}
use Rattle.kmipa_outside.proofs.counting.some_with_tag.Given as goal

abbrev pub invariant-children : goal.invariant-children
invariant-children l =
    record {
      told : some_fails l.wanted 1 (every l.tag (view_trees l.children)) ≡ some_fails l.wanted (l.place + 1) (every l.tag (view_trees l.left));
      few : l.place + length (every l.tag (view_trees l.left)) ≡ l.count;
    }

abbrev pub decreases-children : goal.decreases-children
decreases-children l = l.count - l.place
