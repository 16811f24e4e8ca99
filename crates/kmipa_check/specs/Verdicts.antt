-- What a verdict says: yes, or the first turn, and in it the first item, that is impossible.
use Rattle.std.specs.Prelude.{◌≡◌, ◌<◌, ◌⊎◌, ◌<ℤ◌, ℕ, ◌+◌, List, take, Contains, slice_get, Option, Some, None, Result, Ok, Err}
use Rattle.kmipa_object.specs.Inventory.{Thing}
use Rattle.kmipa_store.specs.Ledger.{Meaning, bytes_at}
use Rattle.kmipa_store.specs.Choices.{Choice, Chooses, inv}
use Rattle.kmipa_record.specs.Marks.{MarkOf, AreRecorded}
use Rattle.kmipa_record.specs.Declarations.{DeclarationOf}
use Rattle.kmipa_record.specs.Entries.{EntryOf}
use Rattle.kmipa_record.specs.Witnesses.{TurnOf}
use Rattle.kmipa_msgs.specs.Messages.{RulesOf}
use Rattle.kmipa_ops.specs.declared.why.Why.{Why}
use Rattle.kmipa_ops.specs.declared.why.Why.TheVariants.{EarlierCallLate, StampRunsBack}
use Rattle.kmipa_ops.specs.Chains.{ChainSome}
use Rattle.kmipa_ops.specs.Ascending.{SecretsAscend}
use Rattle.kmipa_ops.specs.Explains.{BringsOrShows}
use Rattle.kmipa_batch.specs.Calls.{pairs_of, pairs_taken, RefusesMessage}
use Rattle.kmipa_batch.specs.Refusals.{AreShapedFor, SpeaksAtAlong}
use Rattle.kmipa_check.specs.Calls.{CallOf, AreCalls, IsFirstOutside}
use Rattle.kmipa_check.specs.Grants.{grants_declared}
use Rattle.kmipa_check.specs.Steps.{StepOf, order_of}
use Rattle.kmipa_check.specs.Described.{Describes}
use Rattle.kmipa_check.specs.Runs.{Before, Linked, rules_declared, IsAccepted}
use Rattle.kmipa_check.specs.Orders.{IsOrder, WitnessFaultAt}
use Rattle.kmipa_check.specs.declared.fault.CheckFault.{CheckFault}
use Rattle.kmipa_check.specs.declared.fault.CheckFault.TheVariants.{Outside, Witness, Memory}
use Rattle.kmipa_check.specs.declared.verdict.Refused.{Refused}
use Rattle.kmipa_check.specs.declared.verdict.Verdict.{Verdict}
use Rattle.kmipa_check.specs.declared.verdict.Verdict.TheVariants.{Yes, No}

-- a call that no earlier turn took ended before this one began
abbrev pub IsLate : List StepOf → ℕ → StepOf → Type 0
IsLate order turn c = (later : ℕ) × (d : StepOf) × (turn < later) × (slice_get order later ≡ Some d) × Before d c

-- the moment is less than that of the turn before
abbrev pub RunsBack : List StepOf → ℕ → StepOf → Type 0
RunsBack order turn c = (earlier : ℕ) × (d : StepOf) × (earlier + 1 ≡ turn) × (slice_get order earlier ≡ Some d) × (c.response.stamp <ℤ d.response.stamp)

-- the turn of this call, at this place of the order, is placed
pub record IsPlacedAt (order : List StepOf) (turn : ℕ) (c : StepOf) : Type 0 where
  pub there : slice_get order turn ≡ Some c
  pub kept : IsLate order turn c → ⊥
  pub stamped : RunsBack order turn c → ⊥

-- the first turns are placed
abbrev pub ArePlaced : List StepOf → ℕ → Type 0
ArePlaced order count = (turn : ℕ) → turn < count → (c : StepOf) × IsPlacedAt order turn c

-- from some described inventory the first turns are placed and linked
pub record ArePossible (declared : DeclarationOf) (order : List StepOf) (count : ℕ) : Type 0 where
  pub placed : ArePlaced order count
  pub start : List Thing
  pub described : Describes declared start
  pub last : List Thing
  pub linked : Linked (rules_declared declared) start (take count order) last

-- from an inventory the first items of a call are done, in its order, and the shapes that are judged by then are right; or its message is refused
abbrev pub GoesUpTo : RulesOf → List Thing → StepOf → ℕ → Type 0
GoesUpTo rules V c count =
    (AreShapedFor c.request c.response count
    × ((W : List Thing) × (placeholder : Option (List ℕ)) × ChainSome rules c.response.stamp V None (take count (pairs_taken c.request c.response (order_of c))) W placeholder))
    ⊎ RefusesMessage c.response

-- besides the turns before it, this turn is placed, and its first items are done
pub record ArePossibleUpTo (declared : DeclarationOf) (order : List StepOf) (turn : ℕ) (c : StepOf) (count : ℕ) : Type 0 where
  pub placed : ArePlaced order turn
  pub here : IsPlacedAt order turn c
  pub start : List Thing
  pub described : Describes declared start
  pub before : List Thing
  pub linked : Linked (rules_declared declared) start (take turn order) before
  pub items : GoesUpTo (rules_declared declared) before c count

-- the bytes were declared, or one of these steps registered or showed them
pub data WereReported (declared : DeclarationOf) (steps : List StepOf) (bytes : List ℕ) : Type 0 where
  by_declaration : (e : EntryOf) → Contains declared.entries e → e.bytes ≡ Some bytes → WereReported declared steps bytes
  by_step : (s : StepOf) → Contains steps s → BringsOrShows (pairs_of s.request s.response) bytes → WereReported declared steps bytes

-- what is known after these steps: one choice of bytes meets them all, and bytes are known that were declared, registered or shown
pub record AreKnown (declared : DeclarationOf) (order : List StepOf) (m : Meaning) : Type 0 where
  -- every choice comes from a described inventory by these steps
  pub sound : (c : Choice) → Chooses m.secrets c → (start : List Thing) × Describes declared start × Linked (rules_declared declared) start order (inv c m.objects)
  -- every inventory that a described one reaches is one of these
  pub complete : (start V : List Thing) → Describes declared start → Linked (rules_declared declared) start order V → (c : Choice) × Chooses m.secrets c × (V ≡ inv c m.objects)
  -- no other bytes are known
  pub reported : (number : ℕ) (bytes : List ℕ) → bytes_at m.secrets number ≡ Some (Some bytes) → WereReported declared order bytes
  -- each live object has a secret of its own
  pub ascends : SecretsAscend m.objects

-- the turn is impossible where it stands, for the lower of two reasons
pub data RefusedPlace (order : List StepOf) (turn : ℕ) (c : StepOf) (why : Why) : Type 0 where
  late : IsLate order turn c → why ≡ EarlierCallLate → RefusedPlace order turn c why
  runs_back : (IsLate order turn c → ⊥) → RunsBack order turn c → why ≡ StampRunsBack → RefusedPlace order turn c why

-- so many items are possible, with one more they are not, and this item, counted from 1, is reported with the lowest reason
pub record RefusedItem (declared : DeclarationOf) (order : List StepOf) (turn : ℕ) (c : StepOf) (count item : ℕ) (why : Why) : Type 0 where
  pub before : ArePossibleUpTo declared order turn c count
  pub never : ArePossibleUpTo declared order turn c (count + 1) → ⊥
  pub known : Meaning
  pub knows : AreKnown declared (take turn order) known
  pub speaks : SpeaksAtAlong (rules_declared declared) known c.request c.response (order_of c) count item why

-- where the turn is refused: itself, item 0, or at an item, counted from 1
pub data RefusedAt (declared : DeclarationOf) (order : List StepOf) (turn : ℕ) (c : StepOf) (item : ℕ) (why : Why) : Type 0 where
  in_place : item ≡ 0 → RefusedPlace order turn c why → RefusedAt declared order turn c item why
  in_item : (count : ℕ) → RefusedItem declared order turn c count item why → RefusedAt declared order turn c item why

-- a no: the turns before are possible, and this one, counted from 1, of this call, is refused there
pub record IsRefused (declared : DeclarationOf) (order : List StepOf) (r : Refused) : Type 0 where
  pub turn : ℕ
  pub reported : r.turn ≡ turn + 1
  pub call : StepOf
  pub there : slice_get order turn ≡ Some call
  pub number : call.number ≡ r.call
  pub before : ArePossible declared order turn
  pub refused : RefusedAt declared order turn call r.item r.why

abbrev pub TellsVerdict : List MarkOf → DeclarationOf → List TurnOf → Verdict → Type 0
TellsVerdict marks declared turns Yes = IsAccepted marks declared turns
TellsVerdict marks declared turns (No r) =
    (calls : List CallOf) × AreCalls marks calls × ((order : List StepOf) × IsOrder (grants_declared declared) calls turns order × IsRefused declared order r)

-- what a check answers: a verdict; or the first message that is outside; or, where none is, the fault of the witness
abbrev pub Checks : List MarkOf → DeclarationOf → List TurnOf → Result Verdict CheckFault → Type 0
Checks marks declared turns (Ok verdict) = TellsVerdict marks declared turns verdict
Checks marks declared turns (Err (Outside number side o)) = IsFirstOutside marks number side o.item o.kind
Checks marks declared turns (Err (Witness f)) = (calls : List CallOf) × AreCalls marks calls × WitnessFaultAt (grants_declared declared) calls turns f.at f.kind
Checks marks declared turns (Err Memory) = Unit {0}

-- of an accepted witness a check answers yes, unless memory runs out; so it answers yes exactly there
abbrev pub AcceptedIsYes : Type 0
AcceptedIsYes = (marks : List MarkOf) (declared : DeclarationOf) (turns : List TurnOf) (result : Result Verdict CheckFault)
    → AreRecorded marks → IsAccepted marks declared turns → Checks marks declared turns result → (result ≡ Ok Yes) ⊎ (result ≡ Err Memory)
