use Rattle.std.proofs.Common.{◌≤◌, ◌+◌, ◌-◌, ◌*◌, ◌++◌, ℕ, List, IsTrue}
use Rattle.std.specs.Io.{StartsWith, appended_bytes}
use Rattle.kmipa_ttlv.specs.ViewTree.{view_trees}
use Rattle.kmipa_ttlv.specs.Written.{depths, sizes}
use Rattle.kmipa_runs.specs.Shown.{ShowsItems}
use Rattle.kmipa_runs.proofs.shown.+showing.Given as goal

abbrev pub decreases-push_item : goal.decreases-push_item
decreases-push_item g l = 2 * (32 - l.level)

abbrev pub decreases-push_items : goal.decreases-push_items
decreases-push_items g l = 2 * (32 - l.level) + 1

abbrev pub decreases-push_below : goal.decreases-push_below
decreases-push_below g l = 2 * (32 - l.level) - 1

abbrev pub decreases-push_items-items : goal.decreases-push_items-items
decreases-push_items-items g l = sizes (view_trees l.left)

abbrev pub invariant-push_items-items : goal.invariant-push_items-items
invariant-push_items-items g l = record {
  levels : l.level + depths (view_trees l.left) ≤ 32;
  room : IsTrue l.options.messages → l.level + depths (view_trees l.left) ≤ 16;
  shown : (others : List ℕ) → ShowsItems l.options l.level (view_trees l.left) others
      → ShowsItems l.options l.level (view_trees l.items) (appended_bytes (g.P.Printer.printed l.initial.out) (g.P.Printer.printed l.out) ++ others);
  appends : StartsWith (g.P.Printer.printed l.out) (g.P.Printer.printed l.initial.out);
}
