use Rattle.std.proofs.Common.{◌≡◌, ◌<◌, ℕ, true, ◌-◌, ◌+◌, length, map}
use Rattle.kmipa_orders.specs.Candidates.{candidate_step}
use Rattle.kmipa_orders.specs.Links.{at}
use Rattle.kmipa_orders.specs.Taken.{step_at}
use Rattle.kmipa_orders.specs.Ranks.{parts}
use Rattle.kmipa_orders.proofs.forced.stamps_differ.Given as goal

abbrev pub invariant-ranks : goal.invariant-ranks
invariant-ranks l = record {
  some : 0 < l.rank;
  apart : (r : ℕ) → 0 < r → r < l.rank → parts (step_at (map candidate_step l.calls) (at l.ranks.order.items r)) (step_at (map candidate_step l.calls) (at l.ranks.order.items (r + 1))) ≡ true;
}

abbrev pub decreases-ranks : goal.decreases-ranks
decreases-ranks l = length l.calls - l.rank
