-- What the parts of a turn come to. Not promised: `Steps` and `Faults` say what a turn makes.
use Rattle.std.specs.Prelude.{◌≡◌, ◌≢◌, ◌⊎◌, ◌<◌, ℕ, suc, ℤ, pos, List, [], map, take, All, AllPairs, Contains, Option, Some, None, slice_get}
use Rattle.kmipa_ttlv.specs.Tree.{Tree}
use Rattle.kmipa_record.specs.Marks.{MarkOf, begins, ends, begun}
use Rattle.kmipa_record.specs.Witnesses.{BirthOf, TurnOf}
use Rattle.kmipa_msgs.specs.Messages.{AskOf, RequestOf, ResponseOf}
use Rattle.kmipa_msgs.specs.Wanted.{Wanted}
use Rattle.kmipa_passed.specs.Leaving.{AsideOf as LeftOf}
use Rattle.kmipa_places.specs.Calls.{ReadOf, unread, read}
use Rattle.kmipa_places.specs.Places.{PlaceOf, judged, passed}
use Rattle.kmipa_places.specs.Counting.{UnreadCountsOf, AreUnreadCounts}
use Rattle.kmipa_check.specs.Births.{IsBorn, BirthFault}
use Rattle.kmipa_check.specs.Fills.{IsFilled, FillFault}
use Rattle.kmipa_check.specs.Grants.{GrantsOf}
use Rattle.kmipa_check.specs.Places.{GivesPlaces}
use Rattle.kmipa_check.specs.declared.fault.StepFault.{StepFault}
use Rattle.kmipa_check.specs.declared.fault.StepFault.TheVariants.{Unfit, Memory}
use Rattle.kmipa_check.specs.declared.fault.WitnessKind.{WitnessKind}
use Rattle.kmipa_check.specs.declared.fault.WitnessKind.TheVariants.{AsideForm}
use Rattle.kmipa_turns.specs.Answered.{AnswerFault}
use Rattle.kmipa_turns.specs.Faults.{IsCompleted, PlacesFault, ReadFault, UnreadFault}
use Rattle.kmipa_turns.specs.Recorded.{RecordedOf, IsRecorded}
use Rattle.kmipa_turns.specs.Sides.{request_side, response_side, completed}
use Rattle.kmipa_turns.specs.Steps.{StepOf, leaves, takes, Completes, GivesNothing, IsExcepted, MayBeTaken, MaySetAside, excepted_in}

-- ---- the marks

-- the mark at a place begins this call, or none
abbrev pub MarkRead : List MarkOf → ℕ → Option RecordedOf → Type 0
MarkRead marks place None = (call : ℤ) (client message : List ℕ) → slice_get marks place ≡ Some (begins call client message) → ⊥
MarkRead marks place (Some c) = IsRecorded marks c × (c.begin ≡ place)

-- where the call of this number ended, and its response; none of an open call
abbrev pub EndRead : List MarkOf → ℤ → Option (ℕ × List ℕ) → Type 0
EndRead marks number None = (end : ℕ) (response : List ℕ) → slice_get marks end ≡ Some (ends number response) → ⊥
EndRead marks number (Some (end, response)) = slice_get marks end ≡ Some (ends number response)

-- the calls are those that the first so many marks begin
pub record AreReadUpTo (marks : List MarkOf) (place : ℕ) (calls : List RecordedOf) : Type 0 where
  pub numbers : map (λ (c : RecordedOf). c.number) calls ≡ begun (take place marks)
  pub recorded : All (IsRecorded marks) calls

-- ---- the answer

-- the answer of a turn is refused; want of memory tells nothing
abbrev pub AnswerRefused : RecordedOf → TurnOf → Option Tree → StepFault → Type 0
AnswerRefused c t request (Unfit kind) = AnswerFault c t request kind
AnswerRefused c t request Memory = Unit {0}

-- ---- asides

-- the number is that of one of the first so many places, counted from 1
abbrev pub IsPlaceBelow : ℕ → ℤ → Type 0
IsPlaceBelow count aside = (place : ℕ) × (place < count) × (aside ≡ pos (suc place))

-- they are such places, each once
pub record ArePlaces (count : ℕ) (asides : List ℤ) : Type 0 where
  pub each : (aside : ℤ) → Contains asides aside → IsPlaceBelow count aside
  pub once : AllPairs (λ (a b : ℤ). a ≢ b) asides

-- what stands here stands at an earlier place too
abbrev pub StandsBefore : List ℤ → ℕ → Type 0
StandsBefore asides at = (earlier : ℕ) × (aside : ℤ) × (earlier < at) × (slice_get asides earlier ≡ Some aside) × (slice_get asides at ≡ Some aside)

-- ---- a call that can't be read

-- the turn makes this step with such a call, which leaves this
pub record UnreadStep (c : RecordedOf) (t : TurnOf) (request response : Option Tree) (left : LeftOf) (s : StepOf) : Type 0 where
  pub nothing : GivesNothing t
  pub aside : MaySetAside (unread left) t.asides
  pub counts : UnreadCountsOf
  pub counted : AreUnreadCounts request response counts
  pub excepted : ℕ
  pub is_excepted : IsExcepted c t request response excepted
  pub is : s ≡ record { number = c.number; client = c.client; begin = c.begin; end = c.end; stamp = None; taken = leaves left counts; excepted = excepted }

-- or it is refused
abbrev pub UnreadRefused : TurnOf → LeftOf → StepFault → Type 0
UnreadRefused t left (Unfit kind) = UnreadFault t kind ⊎ (GivesNothing t × (MaySetAside (unread left) t.asides → ⊥) × (kind ≡ AsideForm))
UnreadRefused t left Memory = Unit {0}

-- ---- a call that can be read

-- these are the places, and the items may be taken so
abbrev pub AreTaken : ReadOf → List ℤ → Option (List ℕ) → Type 0
AreTaken c numbers places = GivesPlaces numbers places × MayBeTaken c places

-- the places are refused
abbrev pub PlacesRefused : ReadOf → List ℤ → StepFault → Type 0
PlacesRefused c numbers (Unfit kind) = PlacesFault c numbers kind
PlacesRefused c numbers Memory = Unit {0}

-- the turn gives no fills and no births
abbrev pub IsPlain : TurnOf → Type 0
IsPlain t = (t.fills ≡ []) × (t.births ≡ [])

-- a place waits for a payload
abbrev pub Waits : PlaceOf → Type 0
Waits (judged ask answer) = Wanted ask answer
Waits (passed by p) = ⊥

abbrev pub WaitsSomewhere : List PlaceOf → Type 0
WaitsSomewhere places = (place : ℕ) × (p : PlaceOf) × (slice_get places place ≡ Some p) × Waits p

-- these are the items of the request with the births put in
abbrev pub AreBorn : GrantsOf → RequestOf → ResponseOf → List BirthOf → List AskOf → Type 0
AreBorn g request response births asks = (full : RequestOf) × IsBorn g request response births full × (full.items ≡ asks)

-- the call with the fills and the births of the turn put in, at this moment
pub record IsFull (g : GrantsOf) (c : ReadOf) (t : TurnOf) (moment : ℤ) (full : ReadOf) : Type 0 where
  pub response : ResponseOf
  pub filled : IsFilled (request_side c) (response_side c) t.fills response
  pub request : RequestOf
  pub born : IsBorn g (request_side c) (response_side c) t.births request
  pub is : full ≡ completed c moment request response

-- a fault of the fills, or of the births where the fills have none
abbrev pub FullFault : GrantsOf → ReadOf → TurnOf → WitnessKind → Type 0
FullFault g c t kind = FillFault (request_side c) (response_side c) t.fills kind
    ⊎ ((full : ResponseOf) × IsFilled (request_side c) (response_side c) t.fills full × BirthFault g (request_side c) (response_side c) t.births kind)

abbrev pub FullRefused : GrantsOf → ReadOf → TurnOf → StepFault → Type 0
FullRefused g c t (Unfit kind) = FullFault g c t kind
FullRefused g c t Memory = Unit {0}

-- the turn makes this step with such a call
pub record ReadStep (g : GrantsOf) (c : RecordedOf) (t : TurnOf) (x : ReadOf) (s : StepOf) : Type 0 where
  pub full : ReadOf
  pub places : Option (List ℕ)
  pub completes : Completes g x t full places
  pub aside : MaySetAside (read x) t.asides
  pub is : s ≡ record { number = c.number; client = c.client; begin = c.begin; end = c.end; stamp = Some x.stamp; taken = takes full places; excepted = excepted_in x.places }

-- or it is refused
abbrev pub ReadRefused : GrantsOf → TurnOf → ReadOf → StepFault → Type 0
ReadRefused g t x (Unfit kind) = ReadFault g x t kind ⊎ (IsCompleted g (read x) t × (MaySetAside (read x) t.asides → ⊥) × (kind ≡ AsideForm))
ReadRefused g t x Memory = Unit {0}
