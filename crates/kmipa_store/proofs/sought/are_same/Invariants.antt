use Rattle.std.proofs.Common.{◌≡◌, ◌≤◌, ℕ, length, slice_get, Some}
use Rattle.kmipa_attrs.specs.Sets.{name_of}
use Rattle.kmipa_attrs.specs.declared.name.Name.{Name}
use Rattle.kmipa_store.proofs.sought.are_same.Given as goal

abbrev pub invariant-names : goal.invariant-names
invariant-names l = record {
  within : l.place ≤ length l.names;
  same : (k : ℕ) (a b : Name) → l.place ≤ k → slice_get l.names k ≡ Some a → slice_get l.others k ≡ Some b → name_of a ≡ name_of b;
}

abbrev pub decreases-names : goal.decreases-names
decreases-names l = l.place
