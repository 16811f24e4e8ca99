-- How an order that is handed in is looked at: place by place, counted from 1. Not promised.
use Rattle.std.specs.Prelude.{◌≡◌, ◌≢◌, ◌≤◌, ℕ, suc, ◌+◌, ◌-◌, Bool, true, false, slice_set, List, length, Option, Some, slice_get}
use Rattle.kmipa_msgs.specs.declared.request.BatchOption.{BatchOption}
use Rattle.kmipa_msgs.specs.declared.request.BatchOption.TheVariants.{Continue}

-- each number from 1 to this one stands there once, and no other
pub record StandOnce (places : List ℕ) (count : ℕ) : Type 0 where
  pub within : (position place : ℕ) → slice_get places position ≡ Some place → (k : ℕ) × (place ≡ suc k) × (suc k ≤ count)
  pub all : (k : ℕ) → suc k ≤ count → (position : ℕ) × (slice_get places position ≡ Some (suc k))
  pub once : (position other place : ℕ) → slice_get places position ≡ Some place → slice_get places other ≡ Some place → position ≡ other

-- a place was not seen yet, and is seen from now on; or it was seen, or is none of these
abbrev pub Sees : List Bool → ℕ → Bool → List Bool → Type 0
Sees seen place true after = (k : ℕ) × (place ≡ suc k) × (slice_get seen k ≡ Some false) × (after ≡ slice_set seen k true)
Sees seen place false after = (k : ℕ) → place ≡ suc k → slice_get seen k ≢ Some false

-- the first failed place, counted from 0, stands last where it ends the batch
abbrev pub EndsAt : BatchOption → Option ℕ → List ℕ → Type 0
EndsAt option failed places = option ≢ Continue → (f : ℕ) → failed ≡ Some f → slice_get places (length places - 1) ≡ Some (f + 1)
