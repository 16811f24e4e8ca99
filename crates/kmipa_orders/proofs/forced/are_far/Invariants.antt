use Rattle.std.proofs.Common.{ℕ, ◌<◌, ◌-◌, length, map}
use Rattle.kmipa_orders.specs.Candidates.{candidate_step}
use Rattle.kmipa_orders.specs.Far.{IsFarFromLater}
use Rattle.kmipa_orders.specs.Progress.{AreBegun}
use Rattle.kmipa_orders.specs.Ranks.{AreClosed}
use Rattle.kmipa_orders.proofs.forced.are_far.Given as goal

abbrev pub invariant-calls : goal.invariant-calls
invariant-calls l = record {
  far : AreBegun (map candidate_step l.calls) → AreClosed (map candidate_step l.calls) → (k : ℕ) → k < l.first → IsFarFromLater l.tolerance (map candidate_step l.calls) k;
}

abbrev pub decreases-calls : goal.decreases-calls
decreases-calls l = length l.calls - l.first
