-- Where the number of a call first stands in a list.
use Rattle.std.specs.Prelude.{◌≡◌, ◌≢◌, ◌<◌, ◌==◌, ℕ, ℤ, Bool, false, List, length, Option, Some, None, slice_get}
use Rattle.kmipa_record.specs.Marks.{MarkOf, begins, ends}
use Rattle.kmipa_record.specs.NumberMaps.{value_at}
use Rattle.kmipa_check.specs.declared.numbers.FirstPlaces.{FirstPlaces}

-- the place that is noted for a number
abbrev pub place_in : FirstPlaces → ℤ → Option ℕ
place_in f number = value_at f.places number

-- the number that an end mark has
abbrev pub end_number : MarkOf → Option ℤ
end_number (begins call client message) = None
end_number (ends call message) = Some call

-- the number stands at this place, and at no earlier one
pub record IsFirst (numbers : List (Option ℤ)) (number : ℤ) (place : ℕ) : Type 0 where
  pub there : slice_get numbers place ≡ Some (Some number)
  pub first : (earlier : ℕ) → earlier < place → slice_get numbers earlier ≡ Some (Some number) → ⊥

-- where a number first stands among the first so many, if anywhere
abbrev pub StandsFirst : List (Option ℤ) → ℕ → ℤ → Option ℕ → Type 0
StandsFirst numbers count number None = (place : ℕ) → place < count → slice_get numbers place ≡ Some (Some number) → ⊥
StandsFirst numbers count number (Some place) = (place < count) × IsFirst numbers number place

-- the places are those of the first so many
abbrev pub IndexesBelow : List (Option ℤ) → ℕ → FirstPlaces → Type 0
IndexesBelow numbers count f = (number : ℤ) → StandsFirst numbers count number (place_in f number)

-- the places are those of the whole list
abbrev pub Indexes : List (Option ℤ) → FirstPlaces → Type 0
Indexes numbers f = IndexesBelow numbers (length numbers) f

-- whether the noted place is this one
abbrev pub is_noted : Option ℕ → ℕ → Bool
is_noted None place = false
is_noted (Some first) place = first == place

-- ---- how they are noted and tested, not promised

-- the numbers of the first so many elements are wanted, and none of them is that of an earlier one
pub record AreWantedOnce {X : Type 0} (number : X → ℤ) (Wanted : ℤ → Type 0) (xs : List X) (count : ℕ) : Type 0 where
  pub each : (at : ℕ) (x : X) → at < count → slice_get xs at ≡ Some x → Wanted (number x)
  pub first : (at earlier : ℕ) (x y : X) → earlier < at → at < count → slice_get xs at ≡ Some x → slice_get xs earlier ≡ Some y → number y ≡ number x → ⊥

abbrev pub or_else : Option ℕ → ℕ → Option ℕ
or_else None place = Some place
or_else (Some first) place = Some first

-- a number stands at a place after the others
pub record Noted (old new : FirstPlaces) (number : ℤ) (place : ℕ) : Type 0 where
  pub here : place_in new number ≡ or_else (place_in old number) place
  pub others : (other : ℤ) → other ≢ number → place_in new other ≡ place_in old other

-- the same, where there is one
abbrev pub NotedIfAny : FirstPlaces → FirstPlaces → Option ℤ → ℕ → Type 0
NotedIfAny old new None place = (other : ℤ) → place_in new other ≡ place_in old other
NotedIfAny old new (Some number) place = Noted old new number place
