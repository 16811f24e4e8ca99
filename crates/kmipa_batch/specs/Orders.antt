-- The places of a batch in the order in which their items are taken. Places are counted from 0 here, and reported and handed in from 1.
use Rattle.std.specs.Prelude.{◌≡◌, ◌≢◌, ◌≤◌, ◌<◌, All, ℕ, zero, suc, ◌-◌, Bool, not, ◌&&◌, nat_lt, List, [], ◌∷◌, ◌++◌, length, map, Option, Some, None, option_map, slice_get}
use Rattle.kmipa_msgs.specs.declared.request.BatchOption.TheVariants.{Continue}
use Rattle.kmipa_msgs.specs.Messages.{RequestOf, ResponseOf}
use Rattle.kmipa_batch.specs.Shapes.{IsFirstFailed}

-- a request without order: its Batch Order Option is False, and it has more than one item (KMIP 2.1, Batch Order Option)
abbrev pub is_unordered : RequestOf → Bool
is_unordered request = not request.ordered && nat_lt 1 (length request.items)

-- the request has an item at this place, and the response an answer
abbrev pub IsAnsweredPlace : RequestOf → ResponseOf → ℕ → Type 0
IsAnsweredPlace request response place = (place < length request.items) × (place < length response.items)

-- an order in which the items of a call without order may have been done: each answered place stands there once, and no other place; and
-- under Stop and Undo the first that failed stands last, since it ended the batch (profile)
pub record IsTakingOrder (request : RequestOf) (response : ResponseOf) (order : List ℕ) : Type 0 where
  pub answered : (position place : ℕ) → slice_get order position ≡ Some place → IsAnsweredPlace request response place
  pub all : (place : ℕ) → IsAnsweredPlace request response place → (position : ℕ) × (slice_get order position ≡ Some place)
  pub once : (position other place : ℕ) → slice_get order position ≡ Some place → slice_get order other ≡ Some place → position ≡ other
  pub last : request.option ≢ Continue → (failed : ℕ) → IsFirstFailed response.items failed → (before : List ℕ) × (order ≡ before ++ failed ∷ [])

-- what is there, as a list
abbrev pub one_of : {A : Type 0} → Option A → List A
one_of None = []
one_of (Some x) = x ∷ []

-- what stands at these places, in their order; after the end stands nothing
abbrev pub along : {A : Type 0} → List A → List ℕ → List A
along xs [] = []
along xs (place ∷ order) = one_of (slice_get xs place) ++ along xs order

-- the place whose item is taken at a position: by place, or in this order
abbrev pub place_at : Option (List ℕ) → ℕ → Option ℕ
place_at None position = Some position
place_at (Some order) position = slice_get order position

-- so many places, one after the other, from this one on
abbrev pub places_from : ℕ → ℕ → List ℕ
places_from first zero = []
places_from first (suc count) = first ∷ places_from (suc first) count

-- the order of places that were handed in, counted from 1
abbrev pub order_given : Option (List ℕ) → Option (List ℕ)
order_given places = option_map (map (λ (place : ℕ). place - 1)) places

-- places that are handed in, counted from 1, are an order in which the items of a call without order may have been done
abbrev pub AreTakingOrder : RequestOf → ResponseOf → List ℕ → Type 0
AreTakingOrder request response places = All (λ (place : ℕ). 1 ≤ place) places × IsTakingOrder request response (map (λ (place : ℕ). place - 1) places)
