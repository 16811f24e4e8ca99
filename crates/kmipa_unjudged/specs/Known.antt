-- The identifiers of what is told, as a set. Not promised: `Asides` says what is told.
use Rattle.std.specs.Prelude.{◌≡◌, ℕ, Bool, List}
use Rattle.std.specs.BTreeSet.{BTreeSet, contains_by}
use Rattle.std.specs.Cmp.Lexicographic.{slice_cmp}
use Rattle.std.specs.Ordering.{nat_cmp}
use denote.Bor.{Bor}
use Rattle.kmipa_unjudged.specs.Asides.{has_id}
use Rattle.kmipa_unjudged.specs.Told.{NamedOf}

-- a set has an identifier, wherever its bytes stand
abbrev pub is_in : BTreeSet (Bor (List ℕ)) → List ℕ → Bool
is_in ids id = contains_by (λ (x : Bor (List ℕ)). slice_cmp nat_cmp id x.now) ids

abbrev pub AreIds : List NamedOf → BTreeSet (Bor (List ℕ)) → Type 0
AreIds told ids = (id : List ℕ) → is_in ids id ≡ has_id told id
