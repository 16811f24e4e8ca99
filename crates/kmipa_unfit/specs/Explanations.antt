-- What an explanation of a witness's fault claims. Places are counted from 0 here, and turns from 1.
use Rattle.std.specs.Prelude.{◌≡◌, ◌<◌, ℕ, ◌+◌, ℤ, pos, List, length, Contains, slice_get, Option, Some, None, option_map}
use Rattle.std.specs.String.{string_bytes}
use Rattle.kmipa_record.specs.Marks.{MarkOf, begins}
use Rattle.kmipa_record.specs.Witnesses.{TurnOf}
use Rattle.kmipa_check.specs.Calls.{CallOf, AreCalls}
use Rattle.kmipa_check.specs.Grants.{GrantsOf}
use Rattle.kmipa_check.specs.Orders.{HasCall, IsLeftOut, NamesAt, NamesBefore, WitnessFaultAt}
use Rattle.kmipa_check.specs.declared.fault.WitnessKind.{WitnessKind}
use Rattle.kmipa_check.specs.declared.fault.WitnessKind.TheVariants as kinds
use Rattle.kmipa_unfit.specs.UnfitTurns.{TellsGiven, numbers_asked}
use Rattle.kmipa_unfit.specs.declared.explanation.Unfit.{Unfit}
use Rattle.kmipa_unfit.specs.declared.explanation.Unfit.TheVariants.{Unknown, Twice, LeftOut}
use Rattle.kmipa_unfit.specs.declared.explanation.WitnessExplanation.{WitnessExplanation}

-- the begin mark of the call of this number names this client
abbrev pub IsClientOf : List MarkOf → ℤ → List ℕ → Type 0
IsClientOf marks number client = (begin : ℕ) × (asked : List ℕ) × (slice_get marks begin ≡ Some (begins number client asked))

-- the client of the call of this number; none where there is no such call
abbrev pub TellsClient : List MarkOf → List CallOf → ℤ → Option (List ℕ) → Type 0
TellsClient marks calls number None = HasCall calls number → ⊥
TellsClient marks calls number (Some client) = IsClientOf marks number client

-- this turn, counted from 1, stands before the place, and is the first that names the call
pub record IsFirstNamed (turns : List TurnOf) (place : ℕ) (number : ℤ) (turn : ℕ) : Type 0 where
  pub earlier : ℕ
  pub counted : turn ≡ earlier + 1
  pub before : earlier < place
  pub names : NamesAt turns earlier number
  pub first : NamesBefore turns earlier number → ⊥

-- the turn is the first to name a call, and this is told of what it gives to it
pub record TellsCall (g : GrantsOf) (calls : List CallOf) (turns : List TurnOf) (place : ℕ) (t : TurnOf) (kind : WitnessKind) (unfit : Unfit) : Type 0 where
  pub call : CallOf
  pub known : Contains calls call
  pub named : t.call ≡ call.number
  pub first : NamesBefore turns place t.call → ⊥
  pub given : TellsGiven g call t kind unfit

-- what is told of the turn at a place: it names no call; an earlier one names its call; or what it gives to its call
abbrev pub TellsTurn : GrantsOf → List CallOf → List TurnOf → ℕ → TurnOf → WitnessKind → Unfit → Type 0
TellsTurn g calls turns place t kind (Unknown count) = (kind ≡ kinds.UnknownCall) × (HasCall calls t.call → ⊥) × (count ≡ length calls)
TellsTurn g calls turns place t kind (Twice turn) = (kind ≡ kinds.Twice) × HasCall calls t.call × IsFirstNamed turns place t.call turn
TellsTurn g calls turns place t kind other = TellsCall g calls turns place t kind other

-- the turn at this place is told, with the call that it names, its client, and what is wrong
pub record ExplainsTurn (g : GrantsOf) (marks : List MarkOf) (calls : List CallOf) (turns : List TurnOf) (place : ℕ) (kind : WitnessKind) (e : WitnessExplanation) : Type 0 where
  pub turn : e.turn ≡ Some (place + 1)
  pub its : TurnOf
  pub there : slice_get turns place ≡ Some its
  pub named : its.call ≡ e.call
  pub client : TellsClient marks calls e.call (option_map string_bytes e.client)
  pub unfit : TellsTurn g calls turns place its kind e.unfit

-- the call of this number has ended, no turn names it, and it asks for these operations
pub record IsUnnamed (calls : List CallOf) (turns : List TurnOf) (number : ℤ) (operations : List ℕ) : Type 0 where
  pub call : CallOf
  pub known : Contains calls call
  pub numbered : call.number ≡ number
  pub left : IsLeftOut turns call
  pub asked : operations ≡ numbers_asked call.request

abbrev pub TellsUnnamed : List CallOf → List TurnOf → ℤ → Unfit → Type 0
TellsUnnamed calls turns number (LeftOut operations) = IsUnnamed calls turns number operations.items
TellsUnnamed calls turns number other = ⊥

-- the call of this number is told, which is left out, its client, and what it asks for
pub record ExplainsUnnamed (marks : List MarkOf) (calls : List CallOf) (turns : List TurnOf) (number : ℤ) (e : WitnessExplanation) : Type 0 where
  pub turn : e.turn ≡ None
  pub call : e.call ≡ number
  pub client : TellsClient marks calls number (option_map string_bytes e.client)
  pub unfit : TellsUnnamed calls turns number e.unfit

-- what is told of the fault of this kind at this turn, counted from 1; or, of `LeftOut`, at the call of this number
pub data ExplainsFault (g : GrantsOf) (marks : List MarkOf) (calls : List CallOf) (turns : List TurnOf) (at : ℕ) (kind : WitnessKind) (e : WitnessExplanation) : Type 0 where
  of_turn : (place : ℕ) → at ≡ place + 1 → ExplainsTurn g marks calls turns place kind e → ExplainsFault g marks calls turns at kind e
  of_call : kind ≡ kinds.LeftOut → ExplainsUnnamed marks calls turns (pos at) e → ExplainsFault g marks calls turns at kind e

-- it is an explanation of this fault of the witness, among the calls of the transcript, where this is granted
pub record ExplainsWitness (g : GrantsOf) (marks : List MarkOf) (turns : List TurnOf) (at : ℕ) (kind : WitnessKind) (e : WitnessExplanation) : Type 0 where
  pub calls : List CallOf
  pub are : AreCalls marks calls
  pub explains : ExplainsFault g marks calls turns at kind e

-- the witness has this fault, among the calls of the transcript, where this is granted
abbrev pub HasFault : GrantsOf → List MarkOf → List TurnOf → ℕ → WitnessKind → Type 0
HasFault g marks turns at kind = (calls : List CallOf) × AreCalls marks calls × WitnessFaultAt g calls turns at kind
