-- What a ledger may claim of a call that it took or refused. The items are taken by place (no order), or in the order that was handed in.
use Rattle.std.specs.Prelude.{◌≡◌, ℕ, ◌+◌, ℤ, Bool, true, false, ◌||◌, List, take, Option, Some, Result, Ok, Err, slice_get}
use Rattle.std.specs.List.{list_all}
use Rattle.kmipa_store.specs.Ledger.{Meaning, LedgerState}
use Rattle.kmipa_store.specs.Choices.{Choice, Chooses, IsSound}
use Rattle.kmipa_msgs.specs.Messages.{RulesOf}
use Rattle.kmipa_ops.specs.Explains.{is_readable}
use Rattle.kmipa_ops.specs.declared.why.Why.{Why}
use Rattle.kmipa_ops.specs.declared.why.Why.TheVariants.{BatchShape, OperationDiffers}
use Rattle.kmipa_passed.specs.Leaving.{HeldOf, empty}
use Rattle.kmipa_batch.specs.Orders.{place_at}
use Rattle.kmipa_batch.specs.Refusals.{IsJudgedBy}
use Rattle.kmipa_batch.specs.declared.refusal.CallRefusal.{CallRefusal}
use Rattle.kmipa_batch.specs.declared.refusal.CallRefusal.TheVariants.{Impossible, Memory}
use Rattle.kmipa_aside.specs.Explains.{Explains, Refutes, Took, world}
use Rattle.kmipa_aside.specs.Places as asides
use Rattle.kmipa_aside.specs.InSight.{lowest_in_sight}
use Rattle.kmipa_aside.specs.Sights.{SightOf}
use Rattle.kmipa_aside.specs.Taking.{Tells}
use Rattle.kmipa_aside.specs.Worlds.{WorldOf}
use Rattle.kmipa_places.specs.Calls.{ReadOf}
use Rattle.kmipa_places.specs.Places.{PlaceOf, judged, passed}
use Rattle.kmipa_bundle.specs.Deeds.{ChainOf, TellsSome}
use Rattle.kmipa_bundle.specs.Shapes.{IsShapedAt, IsFirstUnshaped, is_unordered}
use Rattle.kmipa_bundle.specs.Bundles.{DoesPlace, DoesRead, places_taken, sight_on}

-- ---- one place

-- there is what is to be judged
abbrev pub is_readable_at : PlaceOf → Bool
is_readable_at (judged ask answer) = is_readable ask answer
is_readable_at (passed by p) = true

-- at each place, unless the message is refused as a whole
abbrev pub is_readable_call : ReadOf → Bool
is_readable_call c = c.refused || list_all is_readable_at c.places

-- the bytes that it tells
abbrev pub TellsPlace : PlaceOf → List ℕ → Type 0
TellsPlace (judged ask answer) bytes = Tells ask answer bytes
TellsPlace (passed by p) bytes = ⊥

-- the lowest reason against it; only one speaks against what isn't judged
abbrev pub IsLowest : SightOf → Meaning → HeldOf → ℤ → PlaceOf → Why → Type 0
IsLowest sight m before t (judged ask answer) why = lowest_in_sight sight m before t (asides.judged ask answer) ≡ Some why
IsLowest sight m before t (passed by p) why = why ≡ OperationDiffers

-- no choice allows it, and this is the lowest reason
pub record Refuted (sight : SightOf) (t : ℤ) (m : Meaning) (before : HeldOf) (place : PlaceOf) (why : Why) : Type 0 where
  pub named : IsLowest sight m before t place why
  pub refutes : Refutes (DoesPlace sight t place) m before

-- ---- the call

-- In an ordered call the shape of a place is judged just before its item; in a call without order all shapes are judged before the first item: those
-- that are judged by the time that so many items are done are right.
abbrev pub AreShapedFor : ReadOf → ℕ → Type 0
AreShapedFor c count = (place : ℕ) → IsJudgedBy (is_unordered c) count place → IsShapedAt c place

-- from some world of the ledger the first places of the order are done, and the shapes that are judged by then are right
pub record IsPossibleUpTo (rules : RulesOf) (m : Meaning) (c : ReadOf) (order : Option (List ℕ)) (count : ℕ) : Type 0 where
  pub shaped : AreShapedFor c count
  pub choice : Choice
  pub chooses : Chooses m.secrets choice
  pub left : WorldOf
  pub held : HeldOf
  pub chain : ChainOf (DoesPlace (sight_on rules c) c.stamp) (take count (places_taken c order)) (world choice m) empty left held

-- What speaks after the first `count` places of the order, and against which item, reported from 1. A shape that is judged next is wrong, and
-- the lowest place without its shape is reported. Or they are right, and against the next place speaks this reason, the lowest, the known bytes and
-- what is set aside being those of the ledger and of the places before.
pub data SpeaksAt (rules : RulesOf) (m : Meaning) (c : ReadOf) (order : Option (List ℕ)) (count item : ℕ) (why : Why) : Type 0 where
  in_shape : (place : ℕ) → item ≡ place + 1 → IsJudgedBy (is_unordered c) (count + 1) place → IsFirstUnshaped c place → why ≡ BatchShape
      → SpeaksAt rules m c order count item why
  in_item : (place : ℕ) → item ≡ place + 1 → AreShapedFor c (count + 1) → place_at order count ≡ Some place
      → (between : Meaning) (held : HeldOf) (there : PlaceOf)
      → Explains (ChainOf (DoesPlace (sight_on rules c) c.stamp) (take count (places_taken c order))) (TellsSome TellsPlace (take count (places_taken c order))) m empty between held → IsSound between
      → slice_get c.places place ≡ Some there → Refuted (sight_on rules c) c.stamp between held there why
      → SpeaksAt rules m c order count item why

-- so many places are possible, with one more they are not, and this item is reported with this reason
pub record CallRefuted (rules : RulesOf) (m : Meaning) (c : ReadOf) (order : Option (List ℕ)) (item : ℕ) (why : Why) : Type 0 where
  pub count : ℕ
  pub before : IsPossibleUpTo rules m c order count
  pub never : IsPossibleUpTo rules m c order (count + 1) → ⊥
  pub unrefused : c.refused ≡ false
  pub speaks : SpeaksAt rules m c order count item why

-- what taking a call in this order comes to: from a ledger `s` to `u`, whatever the ID Placeholder held before it
abbrev pub CallTaken : {A : Type 0} → RulesOf → LedgerState → ReadOf → Option (List ℕ) → Result A CallRefusal → LedgerState → Type 0
CallTaken rules s c order (Ok counts) u = (before : HeldOf) → Took (DoesRead rules c order) (TellsSome TellsPlace c.places) s before u before
CallTaken rules s c order (Err (Impossible item why)) u = CallRefuted rules s.now c order item why × (u ≡ s)
CallTaken rules s c order (Err Memory) u = u ≡ s
