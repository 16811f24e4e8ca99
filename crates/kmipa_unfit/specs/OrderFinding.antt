-- How what is wrong with places is found. Not promised: `UnfitOrders` says what is told.
use Rattle.std.specs.Prelude.{◌≡◌, ◌<◌, ℕ, ◌+◌, ℤ, pos, List, length, Contains, Option, Some, None, slice_get}
use Rattle.kmipa_msgs.specs.Messages.{AnswerOf, RequestOf, ResponseOf}
use Rattle.kmipa_batch.specs.Orders.{AreTakingOrder}
use Rattle.kmipa_batch.specs.Shapes.{IsFirstFailed, NoneFailed}
use Rattle.kmipa_check.specs.Places.{place_numbers}

-- the number is that of an item up to this one
abbrev pub IsWithin : ℕ → ℤ → Type 0
IsWithin answered number = (place : ℕ) × (number ≡ pos (place + 1)) × (place < answered)

-- each of the numbers is; or this one isn't
abbrev pub AreWithin : List ℤ → ℕ → Type 0
AreWithin numbers answered = (at : ℕ) (number : ℤ) → slice_get numbers at ≡ Some number → IsWithin answered number

abbrev pub IsBeyond : List ℤ → ℕ → ℤ → Type 0
IsBeyond numbers answered number = Contains numbers number × (IsWithin answered number → ⊥)

-- the number stands before the place
abbrev pub StandsAhead : List ℤ → ℕ → ℤ → Type 0
StandsAhead numbers place number = (earlier : ℕ) × (earlier < place) × (slice_get numbers earlier ≡ Some number)

-- it stands at this place, before another
abbrev pub IsAhead : List ℤ → ℕ → ℤ → ℕ → Type 0
IsAhead numbers place number earlier = (earlier < place) × (slice_get numbers earlier ≡ Some number)

-- no number stands ahead of itself
abbrev pub AreOnce : List ℤ → Type 0
AreOnce numbers = (at : ℕ) (number : ℤ) → slice_get numbers at ≡ Some number → StandsAhead numbers at number → ⊥

-- the number of the item at a place is there
abbrev pub HasItem : List ℤ → ℕ → Type 0
HasItem numbers place = StandsAhead numbers (length numbers) (pos (place + 1))

-- those of all items up to this one are; or that of this one isn't
abbrev pub HaveAll : List ℤ → ℕ → Type 0
HaveAll numbers answered = (place : ℕ) → place < answered → HasItem numbers place

abbrev pub IsLeft : List ℤ → ℕ → ℕ → Type 0
IsLeft numbers answered item = (place : ℕ) × (item ≡ place + 1) × (place < answered) × (HasItem numbers place → ⊥)

-- the numbers are no order of the answered items
abbrev pub IsOrderless : RequestOf → ResponseOf → List ℤ → Type 0
IsOrderless request response numbers = (places : List ℕ) → numbers ≡ place_numbers places → AreTakingOrder request response places → ⊥

-- the first item that failed, counted from 1
abbrev pub FailsFirst : List AnswerOf → Option ℕ → Type 0
FailsFirst answers None = NoneFailed answers
FailsFirst answers (Some item) = (place : ℕ) × (item ≡ place + 1) × IsFirstFailed answers place
