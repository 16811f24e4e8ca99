use Rattle.std.proofs.Common.{◌≡◌, ◌-◌}
use Rattle.kmipa_ttlv.specs.Input.{came_of, taken_of}
use Rattle.kmipa_judge.proofs.holding.hold_front.Given as goal

-- all that came is held
abbrev pub invariant-reads : goal.invariant-reads
invariant-reads g l = l.held.items ≡ came_of l.input

abbrev pub decreases-reads : goal.decreases-reads
decreases-reads g l = 0x100_0000_0000 - taken_of l.input
