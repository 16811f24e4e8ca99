use Rattle.std.proofs.Common.{◌≡◌, drop, map}
use Rattle.kmipa_turns.specs.Recorded.{recorded_of}
use Rattle.kmipa_trail.specs.Ordering.{first_missing}
use Rattle.kmipa_trail.proofs.order.left_out.Given as goal

abbrev pub invariant-loop-call : goal.invariant-loop-call
invariant-loop-call l = first_missing l.named (map recorded_of l.calls) ≡ first_missing l.named (map recorded_of (drop l.call-index l.calls))
