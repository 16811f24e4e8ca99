-- Where a search got stuck: calls that can be taken one after the other, and what is told of each that may be next behind them.
use Rattle.std.specs.Prelude.{◌≡◌, ◌<◌, ℕ, List, ◌∷◌, map, length, AllPairs, Contains, Option, Some, None, Result, Ok, Err}
use Rattle.std.specs.List.{AllZip}
use Rattle.kmipa_object.specs.Inventory.{Thing}
use Rattle.kmipa_record.specs.Marks.{MarkOf}
use Rattle.kmipa_record.specs.Declarations.{DeclarationOf}
use Rattle.kmipa_check.specs.Calls.{CallOf, AreCalls}
use Rattle.kmipa_check.specs.Left.{CanEnd}
use Rattle.kmipa_check.specs.Steps.{StepOf}
use Rattle.kmipa_check.specs.Verdicts.{IsRefused}
use Rattle.kmipa_check.specs.declared.fault.CheckFault.{CheckFault}
use Rattle.kmipa_check.specs.declared.fault.CheckFault.TheVariants.{Memory}
use Rattle.kmipa_check.specs.declared.verdict.Refused.{Refused}
use Rattle.kmipa_orders.specs.Next.{IsNext}
use Rattle.kmipa_orders.specs.Plain.{ArePlain}
use Rattle.kmipa_orders.specs.Taken.{step_at, so_far, AreNext}
use Rattle.kmipa_orders.specs.declared.stuck.NextCall.{NextCall}
use Rattle.kmipa_orders.specs.declared.stuck.Reached.{Reached}

-- all calls of the transcript are plain, and make these steps
abbrev pub HaveSteps : List MarkOf → Type 0
HaveSteps marks = (calls : List CallOf) × AreCalls marks calls × ((steps : List StepOf) × ArePlain calls steps)

-- from an inventory that the declaration describes these steps lead somewhere
abbrev pub CanBeDone : DeclarationOf → List StepOf → Type 0
CanBeDone declared order = (last : List Thing) × CanEnd declared order last

-- What is told of the last step of an order: nothing, and then all of them can be done; or the no of a check, at this last turn.
abbrev pub TellsLast : DeclarationOf → List StepOf → Option Refused → Type 0
TellsLast declared order None = CanBeDone declared order
TellsLast declared order (Some refused) = (refused.turn ≡ length order) × IsRefused declared order refused

-- what is told of the step at this place, as the next one behind those taken (their places, the newest first)
pub record TellsNext (declared : DeclarationOf) (steps : List StepOf) (taken : List ℕ) (place : ℕ) (told : NextCall) : Type 0 where
  pub number : told.call ≡ (step_at steps place).number
  pub last : TellsLast declared (so_far steps (place ∷ taken)) told.refused

-- these are the places of all steps that may be next, in the order of the begin marks
pub record AreAllNext (steps : List StepOf) (taken places : List ℕ) : Type 0 where
  pub each : (place : ℕ) → Contains places place → IsNext steps taken place
  pub all : (place : ℕ) → IsNext steps taken place → Contains places place
  pub ascend : AllPairs (λ a b. a < b) places

-- something is told of each step that may be next
pub record TellsAllNext (declared : DeclarationOf) (steps : List StepOf) (taken : List ℕ) (told : List NextCall) : Type 0 where
  pub places : List ℕ
  pub are : AreAllNext steps taken places
  pub zipped : AllZip (TellsNext declared steps taken) places told

-- Each of the steps taken was next when it was taken, all of them can be done in this order, and of each that may be next behind them it is told
-- why it is impossible there, or that it is possible.
pub record IsReached (declared : DeclarationOf) (steps : List StepOf) (reached : Reached) : Type 0 where
  pub taken : List ℕ
  pub next_each : AreNext steps taken
  pub numbers : reached.taken.items ≡ map (λ (s : StepOf). s.number) (so_far steps taken)
  pub done : CanBeDone declared (so_far steps taken)
  pub next : TellsAllNext declared steps taken reached.next.items

-- the same of the calls of a transcript, which are plain
pub record TellsReached (marks : List MarkOf) (declared : DeclarationOf) (reached : Reached) : Type 0 where
  pub calls : List CallOf
  pub are : AreCalls marks calls
  pub steps : List StepOf
  pub plain : ArePlain calls steps
  pub is : IsReached declared steps reached

-- what is answered: that, or that memory ran out
abbrev pub Reaches : List MarkOf → DeclarationOf → Result Reached CheckFault → Type 0
Reaches marks declared (Ok reached) = TellsReached marks declared reached
Reaches marks declared (Err fault) = fault ≡ Memory
