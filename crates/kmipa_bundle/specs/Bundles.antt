-- WHAT A CALL DOES THAT CAN BE READ, where some of its places aren't judged, and some objects are set aside (profile).
use Rattle.std.specs.Prelude.{◌≡◌, ◌<◌, ℕ, ℤ, Bool, true, false, List, length, Option, Some, None}
use Rattle.kmipa_store.specs.Ledger.{aside_again}
use Rattle.kmipa_msgs.specs.Messages.{RulesOf}
use Rattle.kmipa_msgs.specs.declared.request.BatchOption.TheVariants.{Undo}
use Rattle.kmipa_passed.specs.Leaving.{HeldOf, empty}
use Rattle.kmipa_batch.specs.Shapes.{IsFirstFailed, NoneFailed}
use Rattle.kmipa_batch.specs.Orders.{IsAnsweredPlace, IsTakingOrder, along}
use Rattle.kmipa_aside.specs.Passed.{DoesPassed}
use Rattle.kmipa_aside.specs.InSight.{DoesInSight}
use Rattle.kmipa_aside.specs.Sights.{SightOf, sight_of}
use Rattle.kmipa_aside.specs.declared.sight.Sight.{Sight}
use Rattle.kmipa_aside.specs.Worlds.{WorldOf}
use Rattle.kmipa_places.specs.Calls.{ReadOf, hiding, read_of}
use Rattle.kmipa_places.specs.declared.call.Readable.{Readable}
use Rattle.kmipa_places.specs.Places.{PlaceOf, judged, passed}
use Rattle.kmipa_bundle.specs.Deeds.{ChainOf}
use Rattle.kmipa_bundle.specs.Shapes.{IsShaped, answers_as, is_unordered, request_as, response_as}

-- by what the places of a call are judged
abbrev pub sight_on : RulesOf → ReadOf → SightOf
sight_on rules c = record { rules = rules; hidden = c.hidden }

-- a call of the program, where this is in sight
abbrev pub call_seen : Sight → Readable → ReadOf
call_seen sight call = hiding (sight_of sight).hidden (read_of call)

-- what a place does
abbrev pub DoesPlace : SightOf → ℤ → PlaceOf → WorldOf → HeldOf → WorldOf → HeldOf → Type 0
DoesPlace sight t (judged ask answer) w before w' after = DoesInSight sight t ask answer w before w' after
DoesPlace sight t (passed by p) w before w' after = DoesPassed t p w before w' after

-- the places as their items are taken: by place, or in this order
abbrev pub places_taken : ReadOf → Option (List ℕ) → List PlaceOf
places_taken c None = c.places
places_taken c (Some order) = along c.places order

-- the world as it was, but that judging stays over where it became so
abbrev pub back_to : WorldOf → WorldOf → WorldOf
back_to w last = record { things = w.things; aside = aside_again w.aside last.aside }

-- what a call leaves whose places lead from `w` to `last`: under Undo with a failure `w` itself, unless judging is over; and else `last`
pub data LeavesOver (c : ReadOf) (w last w' : WorldOf) : Type 0 where
  goes_back : c.option ≡ Undo → (failed : ℕ) → IsFirstFailed (answers_as c.outcomes) failed → w' ≡ back_to w last → LeavesOver c w last w'
  goes_on : (c.option ≡ Undo → NoneFailed (answers_as c.outcomes)) → w' ≡ last → LeavesOver c w last w'

-- the places are done as they are taken; the ID Placeholder is empty at the start of every call
pub record Bundle (rules : RulesOf) (c : ReadOf) (order : Option (List ℕ)) (w w' : WorldOf) : Type 0 where
  pub shaped : IsShaped c
  pub last : WorldOf
  pub held : HeldOf
  pub chain : ChainOf (DoesPlace (sight_on rules c) c.stamp) (places_taken c order) w empty last held
  pub leaves : LeavesOver c w last w'

-- by whether the response refuses the whole message, which changes nothing
abbrev pub DoesReadBy : Bool → RulesOf → ReadOf → Option (List ℕ) → WorldOf → WorldOf → Type 0
DoesReadBy true rules c order w w' = w' ≡ w
DoesReadBy false rules c order w w' = Bundle rules c order w w'

-- THE DEFINITION. The ID Placeholder ends with the call.
pub record DoesRead (rules : RulesOf) (c : ReadOf) (order : Option (List ℕ)) (w : WorldOf) (before : HeldOf) (w' : WorldOf) (after : HeldOf) : Type 0 where
  pub world : DoesReadBy c.refused rules c order w w'
  pub placeholder : after ≡ before

-- how the items of a call may be done: by place; and where the request is without order, in any order that its answers allow
abbrev pub MayTake : ReadOf → Option (List ℕ) → Type 0
MayTake c None = Unit {0}
MayTake c (Some order) = (is_unordered c ≡ true) × (c.refused ≡ false) × IsTakingOrder (request_as c) (response_as c) order

-- each item that has an answer has a place
abbrev pub IsWhole : ReadOf → Type 0
IsWhole c = (place : ℕ) → IsAnsweredPlace (request_as c) (response_as c) place → place < length c.places
