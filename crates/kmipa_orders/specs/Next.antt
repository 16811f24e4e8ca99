-- Which steps may be taken next where some were taken, and how many tries a search can need. A step is named by its place in the list.
use Rattle.std.specs.Prelude.{◌≡◌, ◌≤ℤ◌, ◌+◌, ◌&&◌, ◌||◌, ◌==◌, ℕ, zero, suc, Bool, true, false, not, nat_lt, int_le, cond, List, [], ◌∷◌, length, slice_get, Option, Some, None, Contains}
use Rattle.kmipa_check.specs.Steps.{StepOf}
use Rattle.kmipa_check.specs.Runs.{Before}

-- Where the steps at these places are taken, the one at this place may be next: it isn't taken, no step that is left has a lower stamp, and
-- none is before it.
pub record IsNext (steps : List StepOf) (taken : List ℕ) (place : ℕ) : Type 0 where
  pub call : StepOf
  pub there : slice_get steps place ≡ Some call
  pub left : Contains taken place → ⊥
  pub least : (other : ℕ) (d : StepOf) → slice_get steps other ≡ Some d → (Contains taken other → ⊥) → call.response.stamp ≤ℤ d.response.stamp
  pub first : (other : ℕ) (d : StepOf) → slice_get steps other ≡ Some d → (Contains taken other → ⊥) → Before d call → ⊥

-- ---- the same as a test, so that tries can be counted; a law says that the two agree

abbrev pub is_taken : List ℕ → ℕ → Bool
is_taken [] place = false
is_taken (p ∷ taken) place = (p == place) || is_taken taken place

abbrev pub ends_before : Option ℕ → ℕ → Bool
ends_before None place = false
ends_before (Some end) place = nat_lt end place

-- the second step need not be taken before the first
abbrev pub lets : StepOf → StepOf → Bool
lets c d = int_le c.response.stamp d.response.stamp && not (ends_before d.end c.begin)

-- none of these steps, which stand from a place on, has to be taken before
abbrev pub all_let : List ℕ → StepOf → ℕ → List StepOf → Bool
all_let taken c place [] = true
all_let taken c place (d ∷ steps) = (is_taken taken place || lets c d) && all_let taken c (suc place) steps

abbrev pub is_next_step : List StepOf → List ℕ → ℕ → Option StepOf → Bool
is_next_step steps taken place None = false
is_next_step steps taken place (Some c) = not (is_taken taken place) && all_let taken c 0 steps

abbrev pub is_next : List StepOf → List ℕ → ℕ → Bool
is_next steps taken place = is_next_step steps taken place (slice_get steps place)

-- the sum over so many places, from one on
abbrev pub sum_from : (ℕ → ℕ) → ℕ → ℕ → ℕ
sum_from f zero place = 0
sum_from f (suc count) place = f place + sum_from f count (suc place)

-- The weight of the steps that are left, so many: the sum, over each that may be next, of one and the weight of those left without it.
abbrev pub weigh : ℕ → List StepOf → List ℕ → ℕ
weigh zero steps taken = 0
weigh (suc left) steps taken = sum_from (λ place. cond (is_next steps taken place) (suc (weigh left steps (place ∷ taken))) 0) (length steps) 0

-- The weight of all: no search makes more tries. [profile]
abbrev pub weight : List StepOf → ℕ
weight steps = weigh (length steps) steps []
