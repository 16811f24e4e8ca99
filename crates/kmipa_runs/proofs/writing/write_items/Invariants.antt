use Rattle.std.proofs.Common.{◌≡◌, ◌≤◌, ◌-◌, List, length, drop}
use Rattle.std.specs.Io.{StartsWith, appended_bytes}
use Rattle.kmipa_ttlv.specs.Tree.{Tree}
use Rattle.kmipa_ttlv.specs.Stream.{Begins}
use Rattle.kmipa_runs.specs.Inputs.{joined}
use Rattle.kmipa_runs.proofs.writing.write_items.Given as goal

abbrev pub decreases-items : goal.decreases-items
decreases-items l = length l.bytes - l.at

-- the items up to here are written
abbrev pub invariant-items : goal.invariant-items
invariant-items l = record {
  within : l.at ≤ length l.bytes;
  written : (items : List Tree) × Begins items l.bytes (drop l.at l.bytes) × (appended_bytes l.initial.made.items l.made.items ≡ joined items);
  appends : StartsWith l.made.items l.initial.made.items;
}
