-- Calls in an order of their own, and the links of those that are left. Not promised.
use Rattle.std.specs.Prelude.{◌≡◌, ◌<◌, ◌≤◌, ◌<ℤ◌, ◌⊎◌, ◌&&◌, ◌||◌, int_lt, ℕ, zero, suc, Bool, not, nat_lt, int_le, List, [], ◌∷◌, length, Contains, Option, Some, None}
use Rattle.kmipa_check.specs.Steps.{StepOf}
use Rattle.kmipa_orders.specs.Taken.{step_at}
use Rattle.kmipa_orders.specs.Links.{at, AreLinked, after_with, before_with}

-- so many places in an order: the ranks are numbered from 1 on
pub record IsRanked (count : ℕ) (Le : ℕ → ℕ → Type 0) (order rank : List ℕ) : Type 0 where
  pub placed : (p : ℕ) → p < count → (0 < at rank p) × (at rank p ≤ count) × (at order (at rank p) ≡ p)
  pub sorted : (p q : ℕ) → p < count → q < count → at rank p < at rank q → Le p q

-- in whatever order
abbrev pub InAnyOrder : ℕ → ℕ → Type 0
InAnyOrder p q = Unit {0}

-- by stamps, and calls of one stamp by their places
abbrev pub ByStamp : List StepOf → ℕ → ℕ → Type 0
ByStamp calls p q = ((step_at calls p).response.stamp <ℤ (step_at calls q).response.stamp) ⊎ (((step_at calls p).response.stamp ≡ (step_at calls q).response.stamp) × (p < q))

-- where a step has ended, the place of its end mark
abbrev pub end_or : Option ℕ → ℕ
end_or None = 0
end_or (Some end) = end

abbrev pub end_of : StepOf → ℕ
end_of s = end_or s.end

-- each step has ended
abbrev pub AreEnded : List StepOf → Type 0
AreEnded calls = (p : ℕ) → p < length calls → (step_at calls p).end ≡ Some (end_of (step_at calls p))

abbrev pub ByEnd : List StepOf → ℕ → ℕ → Type 0
ByEnd calls p q = end_of (step_at calls p) ≤ end_of (step_at calls q)

-- the rank is that of a place that is not taken
abbrev pub LeftRank : ℕ → List ℕ → List ℕ → ℕ → Type 0
LeftRank count rank taken r = (p : ℕ) × (p < count) × (at rank p ≡ r) × (Contains taken p → ⊥)

-- those that are left are linked, and were when each was taken
abbrev pub WereLinked : ℕ → List ℕ → List ℕ → List ℕ → List ℕ → Type 0
WereLinked count rank [] after before = AreLinked count (LeftRank count rank []) after before
WereLinked count rank (p ∷ taken) after before =
    AreLinked count (LeftRank count rank (p ∷ taken)) after before
    × WereLinked count rank taken (after_with after before (at rank p)) (before_with after before (at rank p))

-- the rank after which tries go on
abbrev pub rank_from : List ℕ → ℕ → ℕ
rank_from rank zero = 0
rank_from rank (suc p) = at rank p

-- a call has the least stamp, and no call ended before it began, where these have the least stamp and the least end
abbrev pub allows : StepOf → StepOf → StepOf → Bool
allows c least soonest = int_le c.response.stamp least.response.stamp && not (nat_lt (end_of soonest) c.begin)

-- each rank is that of a place
abbrev pub HasRank : ℕ → List ℕ → Type 0
HasRank count rank = (r : ℕ) → 0 < r → r ≤ count → (p : ℕ) × (p < count) × (at rank p ≡ r)

-- the ranks of the first so many places are noted
abbrev pub AreNoted : List ℕ → ℕ → List ℕ → Type 0
AreNoted places count rank = (k : ℕ) → k < count → at places k < length places → at rank (at places k) ≡ suc k

-- each call begins before it ends
abbrev pub AreClosed : List StepOf → Type 0
AreClosed calls = (p : ℕ) → p < length calls → (step_at calls p).begin < end_of (step_at calls p)

-- the first of two has a lower stamp, or ended before the second began
abbrev pub parts : StepOf → StepOf → Bool
parts c d = int_lt c.response.stamp d.response.stamp || nat_lt (end_of c) d.begin
