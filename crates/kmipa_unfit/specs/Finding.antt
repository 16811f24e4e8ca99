-- How a faulty turn is found, and what its explanation stands on. Not promised: each fault of a witness has it.
use Rattle.std.specs.Prelude.{◌≡◌, ◌≢◌, ◌<◌, ℕ, ◌+◌, ℤ, List, [], Contains, slice_get, Some, Result, Ok, Err}
use Rattle.kmipa_msgs.specs.declared.fault.ReadFault.{ReadFault}
use Rattle.kmipa_msgs.specs.declared.fault.ReadFault.TheVariants as read
use Rattle.kmipa_msgs.specs.declared.response.Response.{Response}
use Rattle.kmipa_msgs.specs.Messages.{RequestOf, ResponseOf, response_of}
use Rattle.kmipa_msgs.specs.Responses.{ResponseFault}
use Rattle.kmipa_record.specs.Marks.{MarkOf, begins}
use Rattle.kmipa_record.specs.Witnesses.{TurnOf}
use Rattle.kmipa_check.specs.Births.{BirthFault}
use Rattle.kmipa_check.specs.Calls.{CallOf, AreOutside, AreResponse}
use Rattle.kmipa_check.specs.Fills.{FillFault}
use Rattle.kmipa_check.specs.Grants.{GrantsOf}
use Rattle.kmipa_check.specs.Moments.{IsUntimely}
use Rattle.kmipa_check.specs.Orders.{GivenFault, IsLeftOut, NamesAt, NamesBefore, TurnFault}
use Rattle.kmipa_check.specs.Places.{PlacesFault}
use Rattle.kmipa_check.specs.declared.fault.CheckFault.{CheckFault}
use Rattle.kmipa_check.specs.declared.fault.CheckFault.TheVariants.{Memory}
use Rattle.kmipa_check.specs.declared.fault.WitnessKind.{WitnessKind}
use Rattle.kmipa_check.specs.declared.fault.WitnessKind.TheVariants.{Twice, MomentForm, AsideForm}
use Rattle.kmipa_unfit.specs.Explanations.{IsFirstNamed}
use Rattle.kmipa_unfit.specs.UnfitTurns.{TellsGiven}
use Rattle.kmipa_unfit.specs.declared.explanation.Unfit.{Unfit}
use Rattle.kmipa_unfit.specs.declared.explanation.Unfit.TheVariants.{Answer}
use Rattle.kmipa_unfit.specs.declared.explanation.Unfit.TheVariants as unfit

-- the call has its begin mark
pub record IsBegun (marks : List MarkOf) (c : CallOf) : Type 0 where
  pub client : List ℕ
  pub asked : List ℕ
  pub there : slice_get marks c.begin ≡ Some (begins c.number client asked)

-- it is the call of this number
abbrev pub IsFound : List CallOf → ℤ → CallOf → Type 0
IsFound calls number c = Contains calls c × (c.number ≡ number)

-- the call of this number is left out
abbrev pub LeavesOut : List CallOf → List TurnOf → ℤ → Type 0
LeavesOut calls turns number = (c : CallOf) × IsFound calls number c × IsLeftOut turns c

-- this turn, counted from 1, has this fault
abbrev pub IsTurnFault : GrantsOf → List CallOf → List TurnOf → ℕ → WitnessKind → Type 0
IsTurnFault g calls turns at kind = (place : ℕ) × (at ≡ place + 1) × TurnFault g calls turns place kind

-- the turn at this place stands before another, and is the first that names the call
abbrev pub IsEarliest : List TurnOf → ℕ → ℤ → ℕ → Type 0
IsEarliest turns place number earlier = (earlier < place) × NamesAt turns earlier number × (NamesBefore turns earlier number → ⊥)

-- what the bytes of an answer say to a request, or where they are outside
abbrev pub AnswerSays : RequestOf → List ℕ → Result Response ReadFault → Type 0
AnswerSays request bytes (Ok response) = AreResponse request bytes (response_of response)
AnswerSays request bytes (Err (read.Outside o)) = AreOutside (λ t. ResponseFault t request) bytes o.item o.kind
AnswerSays request bytes (Err read.Memory) = Unit {0}

-- the fault of a turn to a call with this response: of its moment, its places, its fills, its births, or the items that it sets aside
pub data IsAnsweredFault (g : GrantsOf) (request : RequestOf) (response : ResponseOf) (t : TurnOf) (kind : WitnessKind) : Type 0 where
  of_moment : IsUntimely g response.stamp t.moment → kind ≡ MomentForm → IsAnsweredFault g request response t kind
  of_places : PlacesFault request response t.places kind → IsAnsweredFault g request response t kind
  of_fills : FillFault request response t.fills kind → IsAnsweredFault g request response t kind
  of_births : BirthFault g request response t.births kind → IsAnsweredFault g request response t kind
  of_asides : t.asides ≢ [] → kind ≡ AsideForm → IsAnsweredFault g request response t kind

-- what it comes to that an answer can't be read
abbrev pub unread : ReadFault → Result Unfit CheckFault
unread (read.Outside o) = Ok (Answer o)
unread read.Memory = Err Memory

-- the turn at this place names the call; where an earlier one does, too, the fault is that, and else it is that of what the turn gives
abbrev pub IsNamedFault : GrantsOf → CallOf → List TurnOf → ℕ → WitnessKind → Type 0
IsNamedFault g c turns place kind = (t : TurnOf) × (slice_get turns place ≡ Some t) × (t.call ≡ c.number) × (NamesBefore turns place t.call → kind ≡ Twice)
    × ((NamesBefore turns place t.call → ⊥) → GivenFault g c t kind)

-- what is told of a turn that names a call
abbrev pub TellsNamedBy : GrantsOf → CallOf → List TurnOf → ℕ → TurnOf → WitnessKind → Unfit → Type 0
TellsNamedBy g c turns place t kind (unfit.Twice turn) = (kind ≡ Twice) × IsFirstNamed turns place t.call turn
TellsNamedBy g c turns place t kind other = (NamesBefore turns place t.call → ⊥) × TellsGiven g c t kind other

abbrev pub TellsNamed : GrantsOf → CallOf → List TurnOf → ℕ → WitnessKind → Unfit → Type 0
TellsNamed g c turns place kind u = (t : TurnOf) × (slice_get turns place ≡ Some t) × TellsNamedBy g c turns place t kind u
