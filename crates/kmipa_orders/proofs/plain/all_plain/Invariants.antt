use Rattle.std.proofs.Common.{map}
use Rattle.kmipa_orders.specs.Candidates.{candidate_step}
use Rattle.kmipa_orders.specs.Progress.{AllReadable}
use Rattle.kmipa_orders.proofs.plain.all_plain.Given as goal

abbrev pub invariant-calls : goal.invariant-calls
invariant-calls l = AllReadable (map candidate_step l.own.items)
