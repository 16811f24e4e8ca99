-- The first call of an order that comes too late: looked for from the end. Not promised: `Placing` says when it comes too late.
use Rattle.std.specs.Prelude.{◌≡◌, ◌≤◌, ◌<◌, ℕ, List, Option, Some, None, slice_get}
use Rattle.kmipa_turns.specs.Steps.{StepOf}
use Rattle.kmipa_trail.specs.Placing.{IsLate}

-- the least end of the steps from a place on, if one of them has an end
abbrev pub LeastEnd : List StepOf → ℕ → Option ℕ → Type 0
LeastEnd order from None = (turn : ℕ) (d : StepOf) (end : ℕ) → from ≤ turn → slice_get order turn ≡ Some d → d.end ≡ Some end → ⊥
LeastEnd order from (Some least) =
    ((turn : ℕ) (d : StepOf) (end : ℕ) → from ≤ turn → slice_get order turn ≡ Some d → d.end ≡ Some end → least ≤ end)
    × ((turn : ℕ) × (d : StepOf) × (from ≤ turn) × (slice_get order turn ≡ Some d) × (d.end ≡ Some least))

-- the first call from a place on that is late, if there is one
abbrev pub LateFrom : List StepOf → ℕ → Option ℕ → Type 0
LateFrom order from None = (turn : ℕ) (c : StepOf) → from ≤ turn → slice_get order turn ≡ Some c → IsLate order turn c → ⊥
LateFrom order from (Some late) =
    (from ≤ late) × ((c : StepOf) → slice_get order late ≡ Some c → IsLate order late c)
    × ((turn : ℕ) (c : StepOf) → from ≤ turn → turn < late → slice_get order turn ≡ Some c → IsLate order turn c → ⊥)

-- the first late call of an order, if there is one
abbrev pub FirstLate : List StepOf → Option ℕ → Type 0
FirstLate order late = LateFrom order 0 late

-- both, from a place on
pub record ScannedFrom (order : List StepOf) (from : ℕ) (least late : Option ℕ) : Type 0 where
  pub ends : LeastEnd order from least
  pub places : LateFrom order from late
