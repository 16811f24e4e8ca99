-- The calls that are left, along the line of the wishes. Not promised.
use Rattle.std.specs.Prelude.{◌<◌, ◌≤◌, ◌⊎◌, ℕ, List, length, Option, Some, None}
use Rattle.kmipa_check.specs.Steps.{StepOf}
use Rattle.kmipa_orders.specs.Links.{at}
use Rattle.kmipa_orders.specs.Ranks.{LeftRank}
use Rattle.kmipa_orders.specs.Tries.{IsOpenCall}
use Rattle.kmipa_orders.specs.declared.tried.Tried.{Tried}

-- the next call that was not tried and is wished most, or that there is none
abbrev pub IsMostWished : List StepOf → List ℕ → List ℕ → Tried → Option ℕ → Type 0
IsMostWished calls taken wishes t None = (q : ℕ) → IsOpenCall calls taken wishes t q → ⊥
IsMostWished calls taken wishes t (Some p) = IsOpenCall calls taken wishes t p × ((q : ℕ) → IsOpenCall calls taken wishes t q → at wishes p ≤ at wishes q)

-- a rank on the line, or past its end, that none of these calls stands before
pub record IsAlong (calls : List StepOf) (taken wishes : List ℕ) (t : Tried) (rank : ℕ) : Type 0 where
  pub stands : LeftRank (length calls) wishes taken rank ⊎ (length calls < rank)
  pub least : (q : ℕ) → IsOpenCall calls taken wishes t q → rank ≤ at wishes q
