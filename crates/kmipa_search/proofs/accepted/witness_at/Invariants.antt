use Rattle.std.proofs.Common.{◌≡◌, map, take}
use Rattle.kmipa_record.specs.Witnesses.{turn_of}
use Rattle.kmipa_orders.specs.Candidates.{candidate_step}
use Rattle.kmipa_orders.specs.Confirming.{turns_at}
use Rattle.kmipa_search.proofs.accepted.witness_at.Given as goal

abbrev pub invariant-places : goal.invariant-places
invariant-places l = map turn_of l.turns.items ≡ turns_at (map candidate_step l.calls) (take l.place-index l.order)
