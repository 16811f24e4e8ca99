-- THE FIRST FAULT OF WHAT A TURN GIVES TO ITS CALL (profile).
use Rattle.std.specs.Prelude.{◌≡◌, ◌≢◌, ℕ, ℤ, List, [], Option, None}
use Rattle.kmipa_ttlv.specs.Tree.{Tree}
use Rattle.kmipa_msgs.specs.Messages.{ResponseOf}
use Rattle.kmipa_record.specs.Witnesses.{TurnOf}
use Rattle.kmipa_batch.specs.Orders.{AreTakingOrder}
use Rattle.kmipa_bundle.specs.Shapes.{request_as, response_as}
use Rattle.kmipa_check.specs.Births.{BirthFault}
use Rattle.kmipa_check.specs.Fills.{IsFilled, FillFault}
use Rattle.kmipa_check.specs.Grants.{GrantsOf}
use Rattle.kmipa_check.specs.Moments.{IsMoment, IsUntimely}
use Rattle.kmipa_check.specs.Places.{GivesPlaces, place_numbers}
use Rattle.kmipa_check.specs.declared.fault.StepFault.{StepFault}
use Rattle.kmipa_check.specs.declared.fault.StepFault.TheVariants.{Unfit, Memory}
use Rattle.kmipa_check.specs.declared.fault.WitnessKind.{WitnessKind}
use Rattle.kmipa_check.specs.declared.fault.WitnessKind.TheVariants.{FillNotWanted, OrderNotWanted, OrderForm, MomentForm, BirthNotWanted, AsideForm}
use Rattle.kmipa_places.specs.Calls.{CallOf, ReadOf, unread, read, IsCall}
use Rattle.kmipa_turns.specs.Answered.{IsAnswered, AnswerFault}
use Rattle.kmipa_turns.specs.Recorded.{RecordedOf, IsItem}
use Rattle.kmipa_turns.specs.Sides.{request_side, response_side}
use Rattle.kmipa_turns.specs.Steps.{Completes, GivesNothing, MayBeTaken, MaySetAside, WantsOrder}

-- of a call that can't be read: a moment, places, fills or births, the first of these
pub data UnreadFault (t : TurnOf) (kind : WitnessKind) : Type 0 where
  untimely : t.moment ≢ None → kind ≡ MomentForm → UnreadFault t kind
  ordered : t.moment ≡ None → t.places ≢ [] → kind ≡ OrderNotWanted → UnreadFault t kind
  filled : t.moment ≡ None → t.places ≡ [] → t.fills ≢ [] → kind ≡ FillNotWanted → UnreadFault t kind
  born : t.moment ≡ None → t.places ≡ [] → t.fills ≡ [] → t.births ≢ [] → kind ≡ BirthNotWanted → UnreadFault t kind

-- of the places: the call wants no order; or it wants one, and they are none
pub data PlacesFault (c : ReadOf) (numbers : List ℤ) (kind : WitnessKind) : Type 0 where
  unwanted : numbers ≢ [] → (WantsOrder c → ⊥) → kind ≡ OrderNotWanted → PlacesFault c numbers kind
  disordered : numbers ≢ [] → WantsOrder c → ((places : List ℕ) → numbers ≡ place_numbers places → AreTakingOrder (request_as c) (response_as c) places → ⊥)
      → kind ≡ OrderForm → PlacesFault c numbers kind

-- of a call that can be read: the first of its moment, its places, its fills and its births
pub data ReadFault (g : GrantsOf) (c : ReadOf) (t : TurnOf) (kind : WitnessKind) : Type 0 where
  untimely : IsUntimely g c.stamp t.moment → kind ≡ MomentForm → ReadFault g c t kind
  unfit_places : (moment : ℤ) → IsMoment g c.stamp t.moment moment → PlacesFault c t.places kind → ReadFault g c t kind
  unfilled : (moment : ℤ) → IsMoment g c.stamp t.moment moment → (places : Option (List ℕ)) → GivesPlaces t.places places → MayBeTaken c places
      → FillFault (request_side c) (response_side c) t.fills kind → ReadFault g c t kind
  unfit_births : (moment : ℤ) → IsMoment g c.stamp t.moment moment → (places : Option (List ℕ)) → GivesPlaces t.places places → MayBeTaken c places
      → (full : ResponseOf) → IsFilled (request_side c) (response_side c) t.fills full → BirthFault g (request_side c) (response_side c) t.births kind
      → ReadFault g c t kind

abbrev pub CompletingFault : GrantsOf → CallOf → TurnOf → WitnessKind → Type 0
CompletingFault g (unread left) t kind = UnreadFault t kind
CompletingFault g (read c) t kind = ReadFault g c t kind

-- nothing of that is at fault
abbrev pub IsCompleted : GrantsOf → CallOf → TurnOf → Type 0
IsCompleted g (unread left) t = GivesNothing t
IsCompleted g (read c) t = (full : ReadOf) × (places : Option (List ℕ)) × Completes g c t full places

-- THE DEFINITION: that of its answer; or of what completes the call; or of what it sets aside
pub data GivenFault (g : GrantsOf) (c : RecordedOf) (t : TurnOf) (kind : WitnessKind) : Type 0 where
  unfit_answer : (request : Option Tree) → IsItem c.request request → AnswerFault c t request kind → GivenFault g c t kind
  uncompleted : (request response : Option Tree) → IsItem c.request request → IsAnswered c t request response
      → (call : CallOf) → IsCall request response t.asides call → CompletingFault g call t kind → GivenFault g c t kind
  unfit_asides : (request response : Option Tree) → IsItem c.request request → IsAnswered c t request response
      → (call : CallOf) → IsCall request response t.asides call → IsCompleted g call t → (MaySetAside call t.asides → ⊥) → kind ≡ AsideForm
      → GivenFault g c t kind

-- what it comes to where the turn makes no step with the call; want of memory tells nothing
abbrev pub Refuses : GrantsOf → RecordedOf → TurnOf → StepFault → Type 0
Refuses g c t (Unfit kind) = GivenFault g c t kind
Refuses g c t Memory = Unit {0}
