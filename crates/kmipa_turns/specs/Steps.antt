-- WHAT A TURN OF A WITNESS TAKES, where some items aren't judged, and some calls can't be read (profile).
use Rattle.std.specs.Prelude.{◌≡◌, ◌≢◌, ◌<◌, ◌⊎◌, ℕ, suc, ℤ, pos, ◌+◌, true, false, if◌then◌else◌, List, [], ◌∷◌, length, AllPairs, Contains, Option, Some, None, option_map}
use Rattle.kmipa_ttlv.specs.Tree.{Tree}
use Rattle.kmipa_msgs.specs.Messages.{RequestOf, ResponseOf, lent}
use Rattle.kmipa_record.specs.Witnesses.{TurnOf}
use Rattle.kmipa_record.specs.Entries.{items_of}
use Rattle.kmipa_passed.specs.Leaving.{AsideOf as LeftOf, aside_of}
use Rattle.kmipa_batch.specs.Orders.{AreTakingOrder}
use Rattle.kmipa_bundle.specs.Shapes.{is_unordered, request_as, response_as}
use Rattle.kmipa_check.specs.Births.{IsBorn}
use Rattle.kmipa_check.specs.Fills.{IsFilled}
use Rattle.kmipa_check.specs.Grants.{GrantsOf}
use Rattle.kmipa_check.specs.Moments.{IsMoment}
use Rattle.kmipa_check.specs.Places.{GivesPlaces}
use Rattle.kmipa_places.specs.Calls.{CallOf, ReadOf, unread, read, IsCall, hiding, read_of}
use Rattle.kmipa_msgs.specs.Operations.{operation_of}
use Rattle.kmipa_places.specs.Counting.{is_judged_operation, UnreadCountsOf, AreUnreadCounts, unread_counts_of}
use Rattle.kmipa_places.specs.Places.{PlaceOf, judged, passed}
use Rattle.kmipa_places.specs.Unread.{IsUnread}
use Rattle.kmipa_places.specs.declared.place.By.{By}
use Rattle.kmipa_places.specs.declared.place.By.TheVariants.{Request, Answer, Witness}
use Rattle.kmipa_turns.specs.declared.step.Step.{Step}
use Rattle.kmipa_turns.specs.declared.step.Taken.{Taken}
use Rattle.kmipa_turns.specs.declared.step.Taken.TheVariants as taken_as
use Rattle.kmipa_turns.specs.Answered.{IsAnswered, SetsAside}
use Rattle.kmipa_turns.specs.Recorded.{RecordedOf, IsItem}
use Rattle.kmipa_turns.specs.Sides.{request_side, response_side, completed}

-- ---- what becomes of a call

-- It can't be read, and leaves this, and its items count so; or it is this call, at its moment, with what the turn fills in, and its items are taken in
-- the order of these places, counted from 1, or by place.
pub data TakenOf : Type 0 where
  leaves : LeftOf → UnreadCountsOf → TakenOf
  takes : ReadOf → Option (List ℕ) → TakenOf

-- A call that is taken: its number; its client; the places of its marks; the Time Stamp of its response as it was recorded or answered, none where the call can't be
-- read; what becomes of it; and how much of what the turn sets aside is aside by that alone.
pub record StepOf : Type 0 where
  pub number : ℤ
  pub client : List ℕ
  pub begin : ℕ
  pub end : Option ℕ
  pub stamp : Option ℤ
  pub taken : TakenOf
  pub excepted : ℕ

-- what a step of the program means
abbrev pub taken_of : Taken → TakenOf
taken_of (taken_as.Leaves left counts) = leaves (aside_of left) (unread_counts_of counts)
taken_of (taken_as.Takes c places) = takes (read_of c) (option_map items_of places)

-- where these are hidden from its client
abbrev pub taken_hiding : List (List ℕ) → TakenOf → TakenOf
taken_hiding hidden (leaves left counts) = leaves left counts
taken_hiding hidden (takes c places) = takes (hiding hidden c) places

abbrev pub step_of : Step → StepOf
step_of s = record {
  number = s.number;
  client = lent s.client;
  begin = s.begin;
  end = s.end;
  stamp = s.stamp;
  taken = taken_of s.taken;
  excepted = s.excepted;
}

-- the moment at which it is taken; a call that can't be read has none
abbrev pub moment_in : TakenOf → Option ℤ
moment_in (leaves left counts) = None
moment_in (takes c places) = Some c.stamp

abbrev pub moment_of : StepOf → Option ℤ
moment_of s = moment_in s.taken

-- ---- how the items of a call that can be read may be taken

-- in an order of their own: the request is without order, and wasn't refused as a whole
abbrev pub WantsOrder : ReadOf → Type 0
WantsOrder c = (is_unordered c ≡ true) × (c.refused ≡ false)

-- by place; or, where it wants an order, in one of its answered places
abbrev pub MayBeTaken : ReadOf → Option (List ℕ) → Type 0
MayBeTaken c None = Unit {0}
MayBeTaken c (Some places) = WantsOrder c × AreTakingOrder (request_as c) (response_as c) places

-- The turn makes this of a call that can be read: at the moment that it gives, with its fills and its births put in.
pub record Completes (g : GrantsOf) (c : ReadOf) (t : TurnOf) (full : ReadOf) (places : Option (List ℕ)) : Type 0 where
  pub moment : ℤ
  pub timed : IsMoment g c.stamp t.moment moment
  pub ordered : GivesPlaces t.places places
  pub may : MayBeTaken c places
  pub response : ResponseOf
  pub filled : IsFilled (request_side c) (response_side c) t.fills response
  pub request : RequestOf
  pub born : IsBorn g (request_side c) (response_side c) t.births request
  pub is : full ≡ completed c moment request response

-- ---- what a turn may set aside

-- how many answered places a call has: none where it can't be read
abbrev pub place_count : CallOf → ℕ
place_count (unread left) = 0
place_count (read c) = length c.places

-- the whole call, by 0 alone; or answered places, counted from 1, each once
pub data MaySetAside (call : CallOf) (asides : List ℤ) : Type 0 where
  whole : asides ≡ pos 0 ∷ [] → MaySetAside call asides
  places : ((aside : ℤ) → Contains asides aside → (place : ℕ) × (place < place_count call) × (aside ≡ pos (suc place)))
      → AllPairs (λ (a b : ℤ). a ≢ b) asides → MaySetAside call asides

-- a place that is set aside by the witness alone; one that asks for none of the operations that are judged isn't judged anyway
abbrev pub excepted_by : By → ℕ
excepted_by Request = 0
excepted_by Answer = 0
excepted_by Witness = 1

abbrev pub excepted_at : PlaceOf → ℕ
excepted_at (judged ask answer) = 0
excepted_at (passed by p) = if is_judged_operation (operation_of p.asks) then excepted_by by else 0

abbrev pub excepted_in : List PlaceOf → ℕ
excepted_in [] = 0
excepted_in (p ∷ ps) = excepted_at p + excepted_in ps

-- a call that is set aside as a whole is so by that alone where it is open, or could be read without
pub data IsExcepted (c : RecordedOf) (t : TurnOf) (request response : Option Tree) (n : ℕ) : Type 0 where
  alone : SetsAside t → (c.response ≡ None) ⊎ (IsUnread request response [] → ⊥) → n ≡ 1 → IsExcepted c t request response n
  not_set : (SetsAside t → ⊥) → n ≡ 0 → IsExcepted c t request response n
  anyway : c.response ≢ None → IsUnread request response [] → n ≡ 0 → IsExcepted c t request response n

-- ---- the step

-- a turn gives nothing to a call that can't be read, but what it sets aside
pub record GivesNothing (t : TurnOf) : Type 0 where
  pub moment : t.moment ≡ None
  pub places : t.places ≡ []
  pub fills : t.fills ≡ []
  pub births : t.births ≡ []

-- what becomes of this call by a turn: the Time Stamp, what is taken, and what is excepted
abbrev pub Takes : GrantsOf → RecordedOf → TurnOf → Option Tree → Option Tree → CallOf → Option ℤ → TakenOf → ℕ → Type 0
Takes g c t request response (unread left) stamp taken excepted =
    GivesNothing t × (stamp ≡ None) × ((counts : UnreadCountsOf) × AreUnreadCounts request response counts × (taken ≡ leaves left counts)) × IsExcepted c t request response excepted
Takes g c t request response (read x) stamp taken excepted =
    (stamp ≡ Some x.stamp) × ((full : ReadOf) × (places : Option (List ℕ)) × Completes g x t full places × (taken ≡ takes full places)) × (excepted ≡ excepted_in x.places)

-- THE DEFINITION. The turn names the call, and they make this step.
pub record IsStep (g : GrantsOf) (c : RecordedOf) (t : TurnOf) (s : StepOf) : Type 0 where
  pub named : t.call ≡ c.number
  pub request : Option Tree
  pub asks : IsItem c.request request
  pub response : Option Tree
  pub answers : IsAnswered c t request response
  pub call : CallOf
  pub said : IsCall request response t.asides call
  pub aside : MaySetAside call t.asides
  pub stamp : Option ℤ
  pub taken : TakenOf
  pub excepted : ℕ
  pub takes : Takes g c t request response call stamp taken excepted
  pub is : s ≡ record { number = c.number; client = c.client; begin = c.begin; end = c.end; stamp = stamp; taken = taken; excepted = excepted }
