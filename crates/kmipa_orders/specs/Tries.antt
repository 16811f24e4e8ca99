-- How far the tries at a place of a search have come, and which call is tried next. Not promised.
use Rattle.std.specs.Prelude.{◌≡◌, ◌<◌, ◌≤◌, ◌⊎◌, ℕ, true, false, List, length, Option, Some, None}
use Rattle.kmipa_check.specs.Steps.{StepOf}
use Rattle.kmipa_orders.specs.Next.{IsNext}
use Rattle.kmipa_orders.specs.Links.{at}
use Rattle.kmipa_orders.specs.Cursors.{IsCursor}
use Rattle.kmipa_orders.specs.declared.ranks.Ranks.{Ranks}
use Rattle.kmipa_orders.specs.declared.tried.Tried.{Tried}
use Rattle.kmipa_orders.specs.declared.tried.Pick.{Pick}
use Rattle.kmipa_orders.specs.declared.tried.Visit.{Visit}

abbrev pub none_tried : Tried
none_tried = record { from = 0; done = 0; closed = false }

abbrev pub all_tried : Tried
all_tried = record { from = 0; done = 0; closed = true }

-- a call was tried: none is left, or it begins ahead of some place, or its rank among the wishes is one of the first
pub data IsTried (wishes : List ℕ) (t : Tried) (p : ℕ) : Type 0 where
  closed : t.closed ≡ true → IsTried wishes t p
  ahead : p < t.from → IsTried wishes t p
  wished : at wishes p ≤ t.done → IsTried wishes t p

-- a next call that was not tried, which with it is tried, and no other
pub record IsPick (calls : List StepOf) (taken wishes : List ℕ) (t : Tried) (p : ℕ) (u : Tried) : Type 0 where
  pub next : IsNext calls taken p
  pub fresh : IsTried wishes t p → ⊥
  pub tried : IsTried wishes u p
  pub more : (q : ℕ) → IsTried wishes t q → IsTried wishes u q
  pub only : (q : ℕ) → IsNext calls taken q → IsTried wishes u q → IsTried wishes t q ⊎ (q ≡ p)
  pub cursor : IsCursor calls taken u.from

abbrev pub IsPicked : List StepOf → List ℕ → List ℕ → Tried → Option Pick → Type 0
IsPicked calls taken wishes t None = (q : ℕ) → IsNext calls taken q → IsTried wishes t q
IsPicked calls taken wishes t (Some pick) = IsPick calls taken wishes t pick.place pick.tried

-- each call has a rank of its own, from 1 on
abbrev pub IsPreferred : ℕ → Ranks → Type 0
IsPreferred count w = (p : ℕ) → p < count → (0 < at w.rank.items p) × (at w.order.items (at w.rank.items p) ≡ p)

-- a next call that was not tried
pub record IsOpenCall (calls : List StepOf) (taken wishes : List ℕ) (t : Tried) (p : ℕ) : Type 0 where
  pub next : IsNext calls taken p
  pub from : t.from ≤ p
  pub rank : t.done < at wishes p

-- the first of them
abbrev pub IsFirst : List StepOf → List ℕ → List ℕ → Tried → Option ℕ → Type 0
IsFirst calls taken wishes t None = (q : ℕ) → IsOpenCall calls taken wishes t q → ⊥
IsFirst calls taken wishes t (Some p) = IsOpenCall calls taken wishes t p × ((q : ℕ) → IsOpenCall calls taken wishes t q → q < p → ⊥)

-- the one that is wished most, or none
abbrev pub IsBest : List StepOf → List ℕ → List ℕ → Tried → ℕ → Type 0
IsBest calls taken wishes t b = b < length calls → IsOpenCall calls taken wishes t b × ((q : ℕ) → IsOpenCall calls taken wishes t q → at wishes b ≤ at wishes q)

-- of two calls the one that is wished more, the second if the first is none
abbrev pub IsBetter : List ℕ → ℕ → ℕ → ℕ → ℕ → ℕ → Type 0
IsBetter wishes count done best place result =
    ((result ≡ place) × (done < at wishes place) × (best < count → at wishes place ≤ at wishes best))
    ⊎ ((result ≡ best) × ((at wishes place ≤ done) ⊎ ((best < count) × (at wishes best ≤ at wishes place))))

-- none of these calls is left up to a place
pub record IsPassed (calls : List StepOf) (taken wishes : List ℕ) (t : Tried) (from : ℕ) : Type 0 where
  pub cursor : IsCursor calls taken from
  pub onward : t.from ≤ from
  pub none : (q : ℕ) → IsOpenCall calls taken wishes t q → q < from → ⊥

-- and this is the one up to there that is wished most
pub record IsBestTill (calls : List StepOf) (taken wishes : List ℕ) (t : Tried) (from best : ℕ) : Type 0 where
  pub cursor : IsCursor calls taken from
  pub onward : t.from ≤ from
  pub stands : best < length calls → IsOpenCall calls taken wishes t best
  pub least : (q : ℕ) → IsOpenCall calls taken wishes t q → q < from → (best < length calls) × (at wishes best ≤ at wishes q)

-- what is left to try once a call was given back: as it was noted, or nothing, where the call was without effect
abbrev pub IsBehind : Visit → Tried → Type 0
IsBehind v t = (t ≡ v.tried) ⊎ ((v.idle ≡ true) × (t ≡ all_tried))
