-- The first call of an order that comes too late: looked for from the end. Not promised.
use Rattle.std.specs.Prelude.{◌≡◌, ◌≤◌, ◌<◌, ◌==◌, ℕ, Bool, true, false, nat_lt, if◌then◌else◌, List, Option, Some, None, slice_get}
use Rattle.kmipa_check.specs.Steps.{StepOf}
use Rattle.kmipa_check.specs.Verdicts.{IsLate}

-- the least end of the steps from a place on, if one of them has an end
abbrev pub LeastEnd : List StepOf → ℕ → Option ℕ → Type 0
LeastEnd order from None = (turn : ℕ) (d : StepOf) (end : ℕ) → from ≤ turn → slice_get order turn ≡ Some d → d.end ≡ Some end → ⊥
LeastEnd order from (Some least) =
    ((turn : ℕ) (d : StepOf) (end : ℕ) → from ≤ turn → slice_get order turn ≡ Some d → d.end ≡ Some end → least ≤ end)
    × ((turn : ℕ) × (d : StepOf) × (from ≤ turn) × (slice_get order turn ≡ Some d) × (d.end ≡ Some least))

-- the first call from a place on that is late, if there is one
abbrev pub LateFrom : List StepOf → ℕ → Option ℕ → Type 0
LateFrom order from None = (turn : ℕ) (c : StepOf) → from ≤ turn → slice_get order turn ≡ Some c → IsLate order turn c → ⊥
LateFrom order from (Some late) =
    (from ≤ late) × ((c : StepOf) → slice_get order late ≡ Some c → IsLate order late c)
    × ((turn : ℕ) (c : StepOf) → from ≤ turn → turn < late → slice_get order turn ≡ Some c → IsLate order turn c → ⊥)

-- the first late call of an order, if there is one
abbrev pub FirstLate : List StepOf → Option ℕ → Type 0
FirstLate order late = LateFrom order 0 late

-- both, from a place on
pub record ScannedFrom (order : List StepOf) (from : ℕ) (least late : Option ℕ) : Type 0 where
  pub ends : LeastEnd order from least
  pub places : LateFrom order from late

-- whether some end is below a begin
abbrev pub is_below : Option ℕ → ℕ → Bool
is_below None begin = false
is_below (Some end) begin = nat_lt end begin

abbrev pub next_late : Option ℕ → Bool → ℕ → Option ℕ
next_late late true place = Some place
next_late late false place = late

-- the lesser of an end and the least so far
abbrev pub lesser : Option ℕ → ℕ → ℕ
lesser None end = end
lesser (Some least) end = if nat_lt least end then least else end

-- the same, where there may be no end
abbrev pub least_of : Option ℕ → Option ℕ → Option ℕ
least_of least None = least
least_of least (Some end) = Some (lesser least end)

abbrev pub is_at : Option ℕ → ℕ → Bool
is_at None turn = false
is_at (Some late) turn = late == turn
