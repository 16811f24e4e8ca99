use Rattle.std.proofs.Common.{◌≡◌, ◌<◌, ◌≤◌, ℕ, ◌+◌, ◌-◌, length}
use Rattle.kmipa_orders.specs.Links.{at}
use Rattle.kmipa_orders.proofs.links.Links.new.Given as goal

abbrev pub invariant-elements : goal.invariant-elements
invariant-elements l = record {
  within : l.i ≤ l.count + 1;
  long_after : length l.after.items ≡ l.i;
  long_before : length l.before.items ≡ l.i + 1;
  afters : (k : ℕ) → k < l.i → at l.after.items k ≡ k + 1;
  befores : (k : ℕ) → k < l.i → at l.before.items (k + 1) ≡ k;
}

abbrev pub decreases-elements : goal.decreases-elements
decreases-elements l = l.count + 1 - l.i
