-- What a loop keeps of the elements of a list. Not promised.
use Rattle.std.specs.Prelude.{◌≡◌, ℕ, Bool, true, false, filter, List, [], ◌∷◌, map, drop, slice_get, Some}

-- of the elements from a place on those that pass a test, each read
abbrev pub kept : {X Y : Type 0} → (X → Bool) → (X → Y) → List X → ℕ → List Y
kept test read xs place = map read (filter test (drop place xs))

-- one, where it counts
abbrev pub one_if : {Y : Type 0} → Y → Bool → List Y
one_if y true = y ∷ []
one_if y false = []

-- no element passes
abbrev pub AreNone : {X : Type 0} → (X → Bool) → List X → Type 0
AreNone {X} test xs = (place : ℕ) (x : X) → slice_get xs place ≡ Some x → test x ≡ false

-- the one at this place passes
abbrev pub PassesAt : {X : Type 0} → (X → Bool) → List X → ℕ → Type 0
PassesAt {X} test xs place = (x : X) × (slice_get xs place ≡ Some x) × (test x ≡ true)
