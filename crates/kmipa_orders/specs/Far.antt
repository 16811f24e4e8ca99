-- Calls that are apart from those that began after them. Not promised.
use Rattle.std.specs.Prelude.{◌<◌, ℕ, ℤ, List, length}
use Rattle.kmipa_check.specs.Steps.{StepOf}
use Rattle.kmipa_orders.specs.Plain.{AreApart}
use Rattle.kmipa_orders.specs.Taken.{step_at}

-- a call is apart from each later one, under a tolerance
abbrev pub IsFarFromLater : ℤ → List StepOf → ℕ → Type 0
IsFarFromLater tolerance calls first = (second : ℕ) → first < second → second < length calls → AreApart tolerance (step_at calls first) (step_at calls second)
