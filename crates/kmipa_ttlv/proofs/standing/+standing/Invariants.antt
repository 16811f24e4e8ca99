use Rattle.std.proofs.Common.{◌≤◌, ◌+◌, ◌*◌, length}
use Rattle.kmipa_ttlv.specs.Tree.{Trees}
use Rattle.kmipa_ttlv.specs.Spelling.{Run}
use Rattle.kmipa_ttlv.proofs.standing.+standing.Given as goal

abbrev pub decreases-standing : goal.decreases-standing
decreases-standing l = 3 * l.left

abbrev pub decreases-all_stand : goal.decreases-all_stand
decreases-all_stand l = 3 * l.left + 1

abbrev pub decreases-holds : goal.decreases-holds
decreases-holds l = 3 * l.left + 2

-- what was passed stands one after the other
abbrev pub invariant-all_stand-items : goal.invariant-all_stand-items
invariant-all_stand-items l = record {
  run : (before : Trees) × Run l.left before l.bytes l.rest;
  within : length l.rest ≤ length l.bytes;
}

abbrev pub decreases-all_stand-items : goal.decreases-all_stand-items
decreases-all_stand-items l = length l.rest
