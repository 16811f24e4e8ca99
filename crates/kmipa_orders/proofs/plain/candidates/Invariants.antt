use Rattle.std.proofs.Common.{map, take}
use Rattle.kmipa_check.specs.Calls.{call_of}
use Rattle.kmipa_orders.specs.Candidates.{candidate_step}
use Rattle.kmipa_orders.specs.Plain.{ArePlain}
use Rattle.kmipa_orders.proofs.plain.candidates.Given as goal

abbrev pub invariant-calls : goal.invariant-calls
invariant-calls l = ArePlain (map call_of (take l.call-index l.calls)) (map candidate_step l.own.items)
