use Rattle.std.proofs.Common.{◌↔◌}
use Rattle.kmipa_ttlv.specs.ViewTree.{view_trees}
use Rattle.kmipa_record.specs.Entries.{AreListed}
use Rattle.kmipa_record.proofs.ShapeLemmas.{count}
use Rattle.kmipa_record.proofs.entry.are_listed.Given as goal

abbrev pub invariant-children : goal.invariant-children
invariant-children l = AreListed (view_trees l.children) ↔ AreListed (view_trees l.left)

abbrev pub decreases-children : goal.decreases-children
decreases-children l = count (view_trees l.left)
