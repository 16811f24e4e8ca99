-- Where tries go on. Not promised.
use Rattle.std.specs.Prelude.{◌≡◌, ◌⊎◌, ℕ, suc, List}
use Rattle.kmipa_check.specs.Steps.{StepOf}
use Rattle.kmipa_orders.specs.Next.{IsNext}

-- the tries begin at the first call, or after a next one
abbrev pub IsCursor : List StepOf → List ℕ → ℕ → Type 0
IsCursor calls taken from = (from ≡ 0) ⊎ ((p : ℕ) × (from ≡ suc p) × IsNext calls taken p)
