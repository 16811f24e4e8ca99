use Rattle.std.proofs.Common.{map}
use Rattle.kmipa_check.specs.Calls.{call_of}
use Rattle.kmipa_orders.specs.Candidates.{AreOfCalls, own_call}
use Rattle.kmipa_orders.proofs.plain.every_candidate.Given as goal

abbrev pub invariant-calls : goal.invariant-calls
invariant-calls l = AreOfCalls (map call_of l.calls) (map own_call l.own.items)
