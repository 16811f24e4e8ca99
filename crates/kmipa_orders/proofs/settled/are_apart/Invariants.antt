use Rattle.std.proofs.Common.{◌≤◌, ◌-◌, length, map}
use Rattle.kmipa_store.specs.Ledger.{cards_of}
use Rattle.kmipa_orders.specs.Candidates.{candidate_step}
use Rattle.kmipa_orders.proofs.LoneLemmas.{AreMarked}
use Rattle.kmipa_orders.proofs.settled.are_apart.Given as goal

abbrev pub invariant-calls : goal.invariant-calls
invariant-calls g l = record {
  within : l.count ≤ length l.calls;
  marked : AreMarked (map candidate_step l.calls) (cards_of (g.L.Ledger.state l.ledger).now.objects) l.count l.marks.items;
}

abbrev pub decreases-calls : goal.decreases-calls
decreases-calls g l = length l.calls - l.count
