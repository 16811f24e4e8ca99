-- The order of a witness: each turn names a call and makes a step with it, and no call is named twice or left out.
use Rattle.std.specs.Prelude.{◌≡◌, ◌≢◌, ◌<◌, ℕ, ◌+◌, ℤ, pos, List, [], Contains, slice_get, length, Option, Some, None}
use Rattle.kmipa_record.specs.Witnesses.{TurnOf}
use Rattle.kmipa_msgs.specs.Messages.{RequestOf, ResponseOf}
use Rattle.kmipa_msgs.specs.declared.kind.OutsideKind.{OutsideKind}
use Rattle.kmipa_msgs.specs.Responses.{ResponseFault}
use Rattle.kmipa_check.specs.Calls.{CallOf, AreOutside}
use Rattle.kmipa_check.specs.Births.{BirthFault, IsBorn}
use Rattle.kmipa_check.specs.Fills.{IsFilled, FillFault}
use Rattle.kmipa_check.specs.Grants.{GrantsOf}
use Rattle.kmipa_check.specs.Moments.{IsMoment, IsUntimely}
use Rattle.kmipa_check.specs.Places.{GivesPlaces, MayBeTaken, PlacesFault}
use Rattle.kmipa_check.specs.Steps.{StepOf, IsAnswered, IsStep}
use Rattle.kmipa_check.specs.declared.fault.StepFault.{StepFault}
use Rattle.kmipa_check.specs.declared.fault.StepFault.TheVariants.{Unfit, Memory}
use Rattle.kmipa_check.specs.declared.fault.WitnessKind.{WitnessKind}
use Rattle.kmipa_check.specs.declared.fault.WitnessKind.TheVariants.{UnknownCall, Twice, LeftOut, AnswerNotWanted, AnswerMissing, AnswerForm, MomentForm, AsideForm}
use Rattle.kmipa_check.specs.declared.fault.CheckFault.{CheckFault}
use Rattle.kmipa_check.specs.declared.fault.CheckFault.TheVariants as check_fault

-- the turn at this place names this number
abbrev pub NamesAt : List TurnOf → ℕ → ℤ → Type 0
NamesAt turns place number = (turn : TurnOf) × (slice_get turns place ≡ Some turn) × (turn.call ≡ number)

-- a call has this number
abbrev pub HasCall : List CallOf → ℤ → Type 0
HasCall calls number = (c : CallOf) × Contains calls c × (c.number ≡ number)

-- an earlier turn names this number
abbrev pub NamesBefore : List TurnOf → ℕ → ℤ → Type 0
NamesBefore turns place number = (earlier : ℕ) × (earlier < place) × NamesAt turns earlier number

-- some turn names this number
abbrev pub IsNamed : List TurnOf → ℤ → Type 0
IsNamed turns number = (place : ℕ) × NamesAt turns place number

-- the turn at this place is the first one that names a call, and makes this step with it
pub record IsFormed (g : GrantsOf) (calls : List CallOf) (turns : List TurnOf) (place : ℕ) (s : StepOf) : Type 0 where
  pub turn : TurnOf
  pub there : slice_get turns place ≡ Some turn
  pub first : NamesBefore turns place turn.call → ⊥
  pub call : CallOf
  pub known : Contains calls call
  pub step : IsStep g call turn s

-- each turn before this place is formed
abbrev pub AreFormedBelow : GrantsOf → List CallOf → List TurnOf → ℕ → Type 0
AreFormedBelow g calls turns count = (place : ℕ) → place < count → (s : StepOf) × IsFormed g calls turns place s

-- the witness is formed: each turn makes the step at its place, and no call that has ended is left out
pub record IsOrder (g : GrantsOf) (calls : List CallOf) (turns : List TurnOf) (steps : List StepOf) : Type 0 where
  pub counted : length steps ≡ length turns
  pub formed : (place : ℕ) (s : StepOf) → slice_get steps place ≡ Some s → IsFormed g calls turns place s
  pub all : (c : CallOf) (end : ℕ) → Contains calls c → c.end ≡ Some end → IsNamed turns c.number

-- the fault of a turn's answer: one to a call that has ended; none to an open call; or one that is outside as a response to its request
pub data IsAnswerFault (c : CallOf) (t : TurnOf) (kind : WitnessKind) : Type 0 where
  answered : (response : ResponseOf) → c.response ≡ Some response → (t.answer ≡ None → ⊥) → kind ≡ AnswerNotWanted → IsAnswerFault c t kind
  unanswered : c.response ≡ None → t.answer ≡ None → kind ≡ AnswerMissing → IsAnswerFault c t kind
  formless : (bytes : List ℕ) (item : ℕ) (reason : OutsideKind) → c.response ≡ None → t.answer ≡ Some bytes → AreOutside (λ u. ResponseFault u c.request) bytes item reason
      → kind ≡ AnswerForm → IsAnswerFault c t kind

-- The first fault of what the turn gives to a call: that of its answer; or, where there is a response, that of its moment; or that of its
-- places; or the first fault of its fills; or that of its births; or that it sets a place aside.
pub data GivenFault (g : GrantsOf) (c : CallOf) (t : TurnOf) (kind : WitnessKind) : Type 0 where
  unfit_answer : IsAnswerFault c t kind → GivenFault g c t kind
  untimely : (response : ResponseOf) → IsAnswered c t response → IsUntimely g response.stamp t.moment → kind ≡ MomentForm → GivenFault g c t kind
  unfit_places : (response : ResponseOf) → IsAnswered c t response → (moment : ℤ) → IsMoment g response.stamp t.moment moment
      → PlacesFault c.request response t.places kind → GivenFault g c t kind
  unfilled : (response : ResponseOf) → IsAnswered c t response → (moment : ℤ) → IsMoment g response.stamp t.moment moment
      → (places : Option (List ℕ)) → GivesPlaces t.places places → MayBeTaken c.request response places
      → FillFault c.request response t.fills kind → GivenFault g c t kind
  unfit_births : (response : ResponseOf) → IsAnswered c t response → (moment : ℤ) → IsMoment g response.stamp t.moment moment
      → (places : Option (List ℕ)) → GivesPlaces t.places places → MayBeTaken c.request response places
      → (full : ResponseOf) → IsFilled c.request response t.fills full → BirthFault g c.request response t.births kind → GivenFault g c t kind
  unfit_asides : (response : ResponseOf) → IsAnswered c t response → (moment : ℤ) → IsMoment g response.stamp t.moment moment
      → (places : Option (List ℕ)) → GivesPlaces t.places places → MayBeTaken c.request response places
      → (full : ResponseOf) → IsFilled c.request response t.fills full
      → (asked : RequestOf) → IsBorn g c.request response t.births asked → t.asides ≢ [] → kind ≡ AsideForm → GivenFault g c t kind

-- what it comes to where the turn makes no step with the call; want of memory tells nothing
abbrev pub Refuses : GrantsOf → CallOf → TurnOf → StepFault → Type 0
Refuses g c t (Unfit kind) = GivenFault g c t kind
Refuses g c t Memory = Unit {0}

-- the first fault of the turn at this place
pub data TurnFault (g : GrantsOf) (calls : List CallOf) (turns : List TurnOf) (place : ℕ) (kind : WitnessKind) : Type 0 where
  unknown : (number : ℤ) → NamesAt turns place number → (HasCall calls number → ⊥) → kind ≡ UnknownCall → TurnFault g calls turns place kind
  twice : (number : ℤ) → NamesAt turns place number → HasCall calls number → NamesBefore turns place number → kind ≡ Twice → TurnFault g calls turns place kind
  unfit : (c : CallOf) (t : TurnOf) → slice_get turns place ≡ Some t → t.call ≡ c.number → Contains calls c → (NamesBefore turns place t.call → ⊥)
      → GivenFault g c t kind → TurnFault g calls turns place kind

-- the call has ended, and no turn names it
pub record IsLeftOut (turns : List TurnOf) (c : CallOf) : Type 0 where
  pub end : ℕ
  pub ended : c.end ≡ Some end
  pub unnamed : IsNamed turns c.number → ⊥

-- The fault of a witness: that of its first faulty turn, counted from 1; or, where no turn is faulty, the number of the first call that has
-- ended, by begin marks, that no turn names.
pub data WitnessFaultAt (g : GrantsOf) (calls : List CallOf) (turns : List TurnOf) (at : ℕ) (kind : WitnessKind) : Type 0 where
  in_turn : (place : ℕ) → AreFormedBelow g calls turns place → TurnFault g calls turns place kind → at ≡ place + 1 → WitnessFaultAt g calls turns at kind
  left_out : (place : ℕ) (c : CallOf) → AreFormedBelow g calls turns (length turns) → slice_get calls place ≡ Some c → IsLeftOut turns c
      → ((earlier : ℕ) (d : CallOf) → earlier < place → slice_get calls earlier ≡ Some d → IsLeftOut turns d → ⊥)
      → c.number ≡ pos at → kind ≡ LeftOut → WitnessFaultAt g calls turns at kind

-- these are the steps of the first turns
pub record AreFormed (g : GrantsOf) (calls : List CallOf) (turns : List TurnOf) (count : ℕ) (steps : List StepOf) : Type 0 where
  pub counted : length steps ≡ count
  pub each : (place : ℕ) (s : StepOf) → slice_get steps place ≡ Some s → IsFormed g calls turns place s

-- what ordering comes to
abbrev pub OrderFault : GrantsOf → List CallOf → List TurnOf → CheckFault → Type 0
OrderFault g calls turns (check_fault.Outside number side o) = ⊥
OrderFault g calls turns (check_fault.Witness f) = WitnessFaultAt g calls turns f.at f.kind
OrderFault g calls turns check_fault.Memory = Unit {0}
