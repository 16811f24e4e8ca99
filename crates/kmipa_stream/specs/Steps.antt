-- The moments of the steps of an order. Not promised.
use Rattle.std.specs.Prelude.{◌≡◌, ℕ, ◌+◌, ℤ, Bool, false, int_lt, List, slice_get, Option, Some, None}
use Rattle.kmipa_check.specs.Steps.{StepOf}

-- the moment of the last of the first so many steps, if there is one
abbrev pub IsLastMoment : List StepOf → ℕ → Option ℤ → Type 0
IsLastMoment order count None = count ≡ 0
IsLastMoment order count (Some moment) = (place : ℕ) × (d : StepOf) × (place + 1 ≡ count) × (slice_get order place ≡ Some d) × (d.response.stamp ≡ moment)

-- whether there is a last moment, and this one is less
abbrev pub is_less : ℤ → Option ℤ → Bool
is_less moment None = false
is_less moment (Some last) = int_lt moment last
