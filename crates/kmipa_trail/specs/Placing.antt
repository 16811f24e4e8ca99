-- WHERE STEPS STAND: no call behind one that began after it had ended, and moments never run back (profile).
use Rattle.std.specs.Prelude.{◌≡◌, ◌<◌, ◌<ℤ◌, ℕ, ℤ, List, Some, slice_get}
use Rattle.kmipa_check.specs.Runs.{EndsAhead}
use Rattle.kmipa_turns.specs.Steps.{StepOf, moment_of}

-- the end mark of one call stands before the begin mark of another; a call without an end is before nothing
abbrev pub Before : StepOf → StepOf → Type 0
Before a b = EndsAhead a.end b.begin

-- a call that no earlier turn took ended before this one began
abbrev pub IsLate : List StepOf → ℕ → StepOf → Type 0
IsLate order turn s = (later : ℕ) × (d : StepOf) × (turn < later) × (slice_get order later ≡ Some d) × Before d s

-- its moment is less than one of a turn before; a call that can't be read has none
pub record RunsBack (order : List StepOf) (turn : ℕ) (s : StepOf) : Type 0 where
  pub moment : ℤ
  pub has : moment_of s ≡ Some moment
  pub earlier : ℕ
  pub ahead : earlier < turn
  pub other : StepOf
  pub there : slice_get order earlier ≡ Some other
  pub last : ℤ
  pub had : moment_of other ≡ Some last
  pub less : moment <ℤ last

-- the turn of this call, at this place of the order, is placed
pub record IsPlacedAt (order : List StepOf) (turn : ℕ) (s : StepOf) : Type 0 where
  pub there : slice_get order turn ≡ Some s
  pub kept : IsLate order turn s → ⊥
  pub stamped : RunsBack order turn s → ⊥

-- the first turns are placed
abbrev pub ArePlaced : List StepOf → ℕ → Type 0
ArePlaced order count = (turn : ℕ) → turn < count → (s : StepOf) × IsPlacedAt order turn s
