use Rattle.std.proofs.Common.{◌≡◌, ◌<◌, ◌≤◌, ℕ, ℤ, length, map, take, get_or, ◌-◌}
use Rattle.kmipa_orders.specs.Candidates.{candidate_step}
use Rattle.kmipa_orders.specs.Taken.{step_at}
use Rattle.kmipa_orders.proofs.ranks.Ranks.by_stamp.Given as goal

abbrev pub invariant-calls : goal.invariant-calls
invariant-calls l = record {
  within : l.place ≤ length l.calls;
  long : length l.keys.items ≡ l.place;
  keys : (k : ℕ) (d : ℤ × ℕ) → k < l.place → get_or l.keys.items k d ≡ ((step_at (map candidate_step l.calls) k).response.stamp, k);
}

abbrev pub decreases-calls : goal.decreases-calls
decreases-calls l = length l.calls - l.place

abbrev pub invariant-keys : goal.invariant-keys
invariant-keys l = l.places.items ≡ map (λ (key : ℤ × ℕ). key.1) (take l.key-index l.key-items)
