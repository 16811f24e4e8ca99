-- The places that a turn of a witness gives: the order in which the items of its call are taken. They are counted from 1.
use Rattle.std.specs.Prelude.{◌≡◌, ◌≢◌, ℕ, ℤ, pos, true, List, [], map, Option, Some, None}
use Rattle.kmipa_msgs.specs.Messages.{RequestOf, ResponseOf}
use Rattle.kmipa_batch.specs.Calls.{RefusesMessage}
use Rattle.kmipa_batch.specs.Orders.{is_unordered, AreTakingOrder}
use Rattle.kmipa_check.specs.declared.fault.StepFault.{StepFault}
use Rattle.kmipa_check.specs.declared.fault.StepFault.TheVariants.{Unfit, Memory}
use Rattle.kmipa_check.specs.declared.fault.WitnessKind.{WitnessKind}
use Rattle.kmipa_check.specs.declared.fault.WitnessKind.TheVariants.{OrderNotWanted, OrderForm}

-- the numbers of these places
abbrev pub place_numbers : List ℕ → List ℤ
place_numbers places = map (λ (place : ℕ). pos place) places

-- a turn that gives these numbers gives these places; or none, where it gives no number
abbrev pub GivesPlaces : List ℤ → Option (List ℕ) → Type 0
GivesPlaces numbers None = numbers ≡ []
GivesPlaces numbers (Some places) = (numbers ≢ []) × (numbers ≡ place_numbers places)

-- the items of the call may be taken in an order of their own: the request is without order, and it wasn't refused as a whole
abbrev pub WantsOrder : RequestOf → ResponseOf → Type 0
WantsOrder request response = (is_unordered request ≡ true) × (RefusesMessage response → ⊥)

-- how the items of the call may be taken: by place; or, where it wants an order, in one of its answered places
abbrev pub MayBeTaken : RequestOf → ResponseOf → Option (List ℕ) → Type 0
MayBeTaken request response None = Unit {0}
MayBeTaken request response (Some places) = WantsOrder request response × AreTakingOrder request response places

-- the fault of a turn's places: the call wants no order; or it wants one, and they are none
pub data PlacesFault (request : RequestOf) (response : ResponseOf) (numbers : List ℤ) (kind : WitnessKind) : Type 0 where
  unwanted : numbers ≢ [] → (WantsOrder request response → ⊥) → kind ≡ OrderNotWanted → PlacesFault request response numbers kind
  disordered : numbers ≢ [] → WantsOrder request response → ((places : List ℕ) → numbers ≡ place_numbers places → AreTakingOrder request response places → ⊥)
      → kind ≡ OrderForm → PlacesFault request response numbers kind

-- ---- what reading the places tells, not promised

-- these are the places, and the items may be taken so
abbrev pub AreTaken : RequestOf → ResponseOf → List ℤ → Option (List ℕ) → Type 0
AreTaken request response numbers places = GivesPlaces numbers places × MayBeTaken request response places

-- the places are refused
abbrev pub PlacesRefused : RequestOf → ResponseOf → List ℤ → StepFault → Type 0
PlacesRefused request response numbers (Unfit kind) = PlacesFault request response numbers kind
PlacesRefused request response numbers Memory = Unit {0}
