use Rattle.std.proofs.Common.{◌≡◌, ◌-◌, ◌≤◌, length, take, drop, reverse}
use Rattle.kmipa_store.specs.Histories.{rolled}
use Rattle.kmipa_store.proofs.changes.roll_back.Given as goal

abbrev pub invariant-loop-changes : goal.invariant-loop-changes
invariant-loop-changes g l = record {
  value : rolled g.T.Undo.unmade l.subject (take (length l.changes.items - l.count) (reverse l.changes.items))
      ≡ rolled g.T.Undo.unmade l.fn.subject (take (length l.fn.changes.items - l.count) (reverse l.fn.changes.items));
  left : drop (length l.changes.items - l.count) (reverse l.changes.items) ≡ drop (length l.fn.changes.items - l.count) (reverse l.fn.changes.items);
  within : l.count ≤ length l.changes.items;
}

abbrev pub decreases-loop-changes : goal.decreases-loop-changes
decreases-loop-changes g l = length l.changes.items
