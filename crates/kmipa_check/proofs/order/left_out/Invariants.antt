use Rattle.std.proofs.Common.{◌≡◌, drop, map}
use Rattle.kmipa_check.specs.Calls.{call_of}
use Rattle.kmipa_check.specs.Ordering.{first_missing}
use Rattle.kmipa_check.proofs.order.left_out.Given as goal

abbrev pub invariant-loop-call : goal.invariant-loop-call
invariant-loop-call l = first_missing l.named (map call_of l.calls) ≡ first_missing l.named (map call_of (drop l.call-index l.calls))
