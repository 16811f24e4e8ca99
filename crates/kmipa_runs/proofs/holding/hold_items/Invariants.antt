use Rattle.std.proofs.Common.{◌≡◌, ◌-◌, List}
use Rattle.kmipa_ttlv.specs.Input.{came_of, taken_of}
use Rattle.kmipa_ttlv.specs.Items.{AreItems}
use Rattle.kmipa_ttlv.specs.Tree.{Tree}
use Rattle.kmipa_runs.proofs.holding.hold_items.Given as goal

abbrev pub decreases-items : goal.decreases-items
decreases-items g l = 0x100_0000_0000 - taken_of l.input

-- all that came is held, and is items
abbrev pub invariant-items : goal.invariant-items
invariant-items g l = record {
  held : l.held.items ≡ came_of l.input;
  items : (items : List Tree) × AreItems items (came_of l.input);
}
