use Rattle.std.proofs.Common.{◌≡◌, ◌<◌, ◌≤◌, ℕ, length, map, take, get_or, ◌-◌}
use Rattle.kmipa_orders.proofs.ranks.Ranks.by_wish.Given as goal

abbrev pub invariant-calls : goal.invariant-calls
invariant-calls l = record {
  within : l.place ≤ length l.calls;
  long : length l.keys.items ≡ l.place;
  keys : (k : ℕ) (d : ℕ × ℕ) → k < l.place → (get_or l.keys.items k d).1 ≡ k;
}

abbrev pub decreases-calls : goal.decreases-calls
decreases-calls l = length l.calls - l.place

abbrev pub invariant-keys : goal.invariant-keys
invariant-keys l = l.places.items ≡ map (λ (key : ℕ × ℕ). key.1) (take l.key-index l.key-items)
