-- Laws of the definitions: what a check answers is one answer, and what a searcher of orders stands on.
use Rattle.std.specs.Prelude.{◌≡◌, ◌↔◌, ◌≤ℤ◌, ℕ, List, [], ◌∷◌, ◌++◌, Contains, Result, Ok, Err}
use Rattle.std.specs.List.{AllZip}
use Rattle.kmipa_object.specs.Inventory.{Thing}
use Rattle.kmipa_store.specs.Ledger.{Meaning}
use Rattle.kmipa_store.specs.Choices.{IsSound}
use Rattle.kmipa_record.specs.Marks.{MarkOf, AreRecorded}
use Rattle.kmipa_record.specs.Declarations.{DeclarationOf}
use Rattle.kmipa_record.specs.Witnesses.{FillOf, TurnOf}
use Rattle.kmipa_ttlv.specs.Written.{InRange}
use Rattle.kmipa_msgs.specs.Messages.{RequestOf, ResponseOf}
use Rattle.kmipa_batch.specs.Calls.{Completes}
use Rattle.kmipa_ops.specs.declared.why.Why.{Why}
use Rattle.kmipa_batch.specs.Refusals.{CallExplainsAlong, CallRefutedAlong}
use Rattle.kmipa_batch.specs.Readable.{IsReadableCall}
use Rattle.kmipa_check.specs.Calls.{CallOf, AreCalls, AreTimed, IsRecorded}
use Rattle.kmipa_check.specs.Fills.{IsFilled}
use Rattle.kmipa_check.specs.Steps.{StepOf, order_of, IsStep}
use Rattle.kmipa_check.specs.Described.{Describes}
use Rattle.kmipa_check.specs.Grants.{GrantsOf, grants_declared}
use Rattle.kmipa_check.specs.Orders.{IsOrder}
use Rattle.kmipa_check.specs.Runs.{Before, IsPlaced, Linked, TakeEachOnce, IsAccepted, IsExplained, rules_declared}
use Rattle.kmipa_check.specs.Verdicts.{AreKnown, Checks}
use Rattle.kmipa_check.specs.declared.fault.CheckFault.{CheckFault}
use Rattle.kmipa_check.specs.declared.fault.CheckFault.TheVariants.{Outside, Witness, Memory}
use Rattle.kmipa_check.specs.declared.verdict.Verdict.{Verdict}
use Rattle.kmipa_check.specs.declared.verdict.Verdict.TheVariants.{Yes, No}

-- ---- one answer

-- a transcript has one list of calls
abbrev pub OneListOfCalls : Type 0
OneListOfCalls = (marks : List MarkOf) (calls others : List CallOf) → AreRecorded marks → AreCalls marks calls → AreCalls marks others → calls ≡ others

-- a witness gives one order of them
abbrev pub OneOrder : Type 0
OneOrder = (g : GrantsOf) (marks : List MarkOf) (calls : List CallOf) (turns : List TurnOf) (steps others : List StepOf)
    → AreRecorded marks → AreCalls marks calls → IsOrder g calls turns steps → IsOrder g calls turns others → steps ≡ others

-- two answers are one, or memory ran out: of two no's turn, call, item and reason are equal
abbrev pub AreOne : Result Verdict CheckFault → Result Verdict CheckFault → Type 0
AreOne (Err Memory) b = Unit {0}
AreOne a (Err Memory) = Unit {0}
AreOne (Ok Yes) (Ok Yes) = Unit {0}
AreOne (Ok (No a)) (Ok (No b)) = (a.turn ≡ b.turn) × (a.call ≡ b.call) × (a.item ≡ b.item) × (a.why ≡ b.why)
AreOne (Err (Outside number side o)) (Err (Outside other from p)) = (number ≡ other) × (side ≡ from) × (o.item ≡ p.item) × (o.kind ≡ p.kind)
AreOne (Err (Witness f)) (Err (Witness g)) = (f.at ≡ g.at) × (f.kind ≡ g.kind)
AreOne a b = ⊥

-- what a check may answer is one answer
abbrev pub OneAnswer : Type 0
OneAnswer = (marks : List MarkOf) (declared : DeclarationOf) (turns : List TurnOf) (a b : Result Verdict CheckFault)
    → AreRecorded marks → Checks marks declared turns a → Checks marks declared turns b → AreOne a b

-- ---- fills

-- Where fills are put in, whatever completes the filled response completes the one without them. The numbers that they hold are in range,
-- and their texts are UTF-8, as of all items that bytes spell.
abbrev pub FilledIsCompleted : Type 0
FilledIsCompleted = (request : RequestOf) (response full fuller : ResponseOf) (fills : List FillOf) → ((fill : FillOf) → Contains fills fill → InRange fill.payload)
    → IsFilled request response fills full → Completes request full fuller → Completes request response fuller

-- ---- what a searcher stands on

-- the calls of a transcript begin one after the other, and each ends after its begin
abbrev pub CallsAreTimed : Type 0
CallsAreTimed = (marks : List MarkOf) (calls : List CallOf) → AreRecorded marks → AreCalls marks calls → AreTimed calls

-- where these steps are left, this one may be taken next: none of them is before it, and none has an earlier moment
pub record MayBeNext (s : StepOf) (left : List StepOf) : Type 0 where
  pub first : (d : StepOf) → Contains left d → Before d s → ⊥
  pub least : (d : StepOf) → Contains left d → s.response.stamp ≤ℤ d.response.stamp

-- steps are placed exactly where each of them, as those before it are taken, may be the next of those that are left
abbrev pub PlacedOneByOne : Type 0
PlacedOneByOne = (steps : List StepOf) → IsPlaced steps ↔ ((taken left : List StepOf) (s : StepOf) → steps ≡ taken ++ s ∷ left → MayBeNext s left)

-- known before, and the call is taken: known after it
abbrev pub TakenIsKnown : Type 0
TakenIsKnown = (declared : DeclarationOf) (steps : List StepOf) (s : StepOf) (m n : Meaning)
    → AreKnown declared steps m → CallExplainsAlong (rules_declared declared) m s.request s.response (order_of s) n → AreKnown declared (steps ++ s ∷ []) n

-- known before, and the call is refused: no run from a described inventory begins so
abbrev pub RefusedIsNever : Type 0
RefusedIsNever = (declared : DeclarationOf) (steps rest : List StepOf) (s : StepOf) (m : Meaning) (item : ℕ) (why : Why) (start last : List Thing)
    → AreKnown declared steps m → CallRefutedAlong (rules_declared declared) m s.request s.response (order_of s) item why → Describes declared start
    → Linked (rules_declared declared) start (steps ++ s ∷ rest) last → ⊥

-- a step of a recorded call can be judged
abbrev pub StepIsReadable : Type 0
StepIsReadable = (g : GrantsOf) (marks : List MarkOf) (c : CallOf) (t : TurnOf) (s : StepOf) → IsRecorded marks c → IsStep g c t s → IsReadableCall s.request s.response

-- each turn makes the step at its place with one of the calls
abbrev pub AreMade : GrantsOf → List CallOf → List TurnOf → List StepOf → Type 0
AreMade g calls turns steps = AllZip (λ (t : TurnOf) (s : StepOf). (c : CallOf) × Contains calls c × IsStep g c t s) turns steps

-- steps that take each call once, are placed and known to their end are a witness that is accepted
abbrev pub KnownIsAccepted : Type 0
KnownIsAccepted = (marks : List MarkOf) (declared : DeclarationOf) (calls : List CallOf) (turns : List TurnOf) (steps : List StepOf) (m : Meaning)
    → AreCalls marks calls → AreMade (grants_declared declared) calls turns steps → TakeEachOnce (grants_declared declared) calls steps → IsPlaced steps → AreKnown declared steps m → IsSound m
    → IsAccepted marks declared turns

-- a transcript with an accepted witness is explained
abbrev pub AcceptedIsExplained : Type 0
AcceptedIsExplained = (marks : List MarkOf) (declared : DeclarationOf) (turns : List TurnOf) → IsAccepted marks declared turns → IsExplained marks declared
