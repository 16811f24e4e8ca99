-- A set of names that are lent, in which names are looked up; it is not promised.
use Rattle.std.specs.Prelude.{◌≡◌, Bool, List}
use Rattle.std.specs.List.{list_any}
use Rattle.std.specs.Ordering.{nat_cmp, ordering_then}
use Rattle.std.specs.Cmp.Lexicographic.{slice_cmp}
use Rattle.std.specs.declared.cmp.Ordering.{Ordering}
use Rattle.std.specs.BTreeSet.{BTreeSet, contains_by}
use Rattle.kmipa_attrs.specs.Sets.{NameOf}
use Rattle.kmipa_ops.specs.Objects.{same_name}
use Rattle.kmipa_ops.specs.declared.lent_name.LentName.{LentName}

abbrev pub lent_name_of : LentName → NameOf
lent_name_of n = record { value = n.value.now; kind = n.kind }

-- the order of names: by their values, and where these are equal by their types
abbrev pub name_cmp : NameOf → NameOf → Ordering
name_cmp m n = ordering_then (slice_cmp nat_cmp m.value n.value) (nat_cmp m.kind n.kind)

-- a name is in the set
abbrev pub is_in : BTreeSet LentName → NameOf → Bool
is_in set n = contains_by (λ (k : LentName). name_cmp n (lent_name_of k)) set

-- the set has exactly these names
abbrev pub HasNames : List NameOf → BTreeSet LentName → Type 0
HasNames names set = (n : NameOf) → is_in set n ≡ list_any (λ (k : NameOf). same_name k n) names
