-- Moments that run back: compared with the last one before. Not promised: `Placing` says when a moment runs back.
use Rattle.std.specs.Prelude.{◌≡◌, ◌<◌, ◌≤ℤ◌, int_lt, ℕ, ℤ, Bool, false, List, Option, Some, None, slice_get}
use Rattle.kmipa_turns.specs.Steps.{StepOf, moment_of}

-- some of the first turns has this moment
abbrev pub HasMoment : List StepOf → ℕ → ℤ → Type 0
HasMoment order count moment = (turn : ℕ) × (s : StepOf) × (turn < count) × (slice_get order turn ≡ Some s) × (moment_of s ≡ Some moment)

-- the greatest moment of the first turns, if one has any
abbrev pub IsLatest : List StepOf → ℕ → Option ℤ → Type 0
IsLatest order count None = (moment : ℤ) → HasMoment order count moment → ⊥
IsLatest order count (Some last) = HasMoment order count last × ((moment : ℤ) → HasMoment order count moment → moment ≤ℤ last)

-- both are there, and the moment is less than the last one
abbrev pub is_back : Option ℤ → Option ℤ → Bool
is_back (Some last) (Some moment) = int_lt moment last
is_back (Some last) None = false
is_back None moment = false

abbrev pub later : Option ℤ → Option ℤ → Option ℤ
later last None = last
later last (Some moment) = Some moment
