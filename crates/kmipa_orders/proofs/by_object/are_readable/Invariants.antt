use Rattle.std.proofs.Common.{map, take}
use Rattle.kmipa_orders.specs.Candidates.{candidate_step}
use Rattle.kmipa_orders.specs.Progress.{AllReadable}
use Rattle.kmipa_orders.proofs.by_object.are_readable.Given as goal

abbrev pub invariant-calls : goal.invariant-calls
invariant-calls l = AllReadable (map candidate_step (take l.call-index l.calls))
