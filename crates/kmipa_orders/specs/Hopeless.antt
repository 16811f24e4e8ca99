-- Answers that no inventory allows: where a call has one, no order explains every answer at once.
use Rattle.std.specs.Prelude.{◌≡◌, ◌≢◌, ◌==◌, ℕ, true, bytes_eq, List, length, slice_get, Some}
use Rattle.kmipa_object.specs.Inventory.{Thing}
use Rattle.kmipa_attrs.specs.Filters.{FilterOf}
use Rattle.kmipa_record.specs.Marks.{MarkOf, AreRecorded}
use Rattle.kmipa_record.specs.Declarations.{DeclarationOf}
use Rattle.kmipa_record.specs.Witnesses.{TurnOf}
use Rattle.kmipa_msgs.specs.declared.response.Status.TheVariants.{Failed}
use Rattle.kmipa_msgs.specs.Messages.{RulesOf, AskOf, locates, operation_asked, RequestOf, AnswerOf, located, ResponseOf}
use Rattle.kmipa_msgs.specs.Operations.{operation_number}
use Rattle.kmipa_ops.specs.Locate.{is_over}
use Rattle.kmipa_ops.specs.Objects.{is_other, clash}
use Rattle.kmipa_batch.specs.Calls.{CallSomeAlong}
use Rattle.kmipa_batch.specs.Shapes.{IsShapedAt}
use Rattle.kmipa_check.specs.Calls.{CallOf, AreCalls}
use Rattle.kmipa_check.specs.Grants.{GrantsOf}
use Rattle.kmipa_check.specs.Runs.{IsExplained}
use Rattle.kmipa_check.specs.Steps.{StepOf, IsStep, order_of}

-- The call has ended, and no step that a turn makes with it is possible, over any inventory and whatever the rules.
pub record IsHopeless (c : CallOf) : Type 0 where
  pub end : ℕ
  pub ended : c.end ≡ Some end
  pub never : (g : GrantsOf) (t : TurnOf) (s : StepOf) → IsStep g c t s → (rules : RulesOf) (V W : List Thing)
      → CallSomeAlong rules V s.request s.response (order_of s) W → ⊥

-- the call at this place among these is hopeless
abbrev pub IsHopelessAmong : List CallOf → ℕ → Type 0
IsHopelessAmong calls place = (c : CallOf) × (slice_get calls place ≡ Some c) × IsHopeless c

-- so is that of a transcript
abbrev pub IsHopelessIn : List MarkOf → ℕ → Type 0
IsHopelessIn marks place = (calls : List CallOf) × AreCalls marks calls × IsHopelessAmong calls place

-- Where one call is hopeless, nothing explains the transcript, whatever the declaration grants.
abbrev pub HopelessExplainsNothing : Type 0
HopelessExplainsNothing =
    (marks : List MarkOf) (declared : DeclarationOf) (place : ℕ) → AreRecorded marks → IsHopelessIn marks place → IsExplained marks declared → ⊥

-- ---- what is looked at, not promised

-- more is listed than the maximum, or something twice
pub data IsListedWrongly (q : FilterOf) (listed : List (List ℕ)) : Type 0 where
  too_many : is_over q.maximum (length listed) ≡ true → IsListedWrongly q listed
  twice : (i j : ℕ) (id : List ℕ) → slice_get listed i ≡ Some id → slice_get listed j ≡ Some id → i ≢ j → IsListedWrongly q listed

-- the answer names another operation or another Unique Batch Item ID than the ask, or it is a Locate that was done and is listed wrongly
pub data IsOff (ask : AskOf) (answer : AnswerOf) : Type 0 where
  operation : is_other (λ (x y : ℕ). x == y) answer.operation (operation_number (operation_asked ask.asked)) ≡ true → IsOff ask answer
  batch_id : clash bytes_eq answer.batch_id ask.batch_id ≡ true → IsOff ask answer
  listed : (q : FilterOf) (ids : List (List ℕ)) → ask.asked ≡ locates q → answer.status ≢ Failed → answer.payload ≡ Some (located ids)
      → IsListedWrongly q ids → IsOff ask answer

-- a place hasn't its shape, or its answer is off
pub data IsOffAt (request : RequestOf) (response : ResponseOf) (place : ℕ) : Type 0 where
  unshaped : (IsShapedAt request response place → ⊥) → IsOffAt request response place
  answered : (ask : AskOf) (answer : AnswerOf) → slice_get request.items place ≡ Some ask → slice_get response.items place ≡ Some answer
      → IsOff ask answer → IsOffAt request response place

-- some place is off
abbrev pub SomePlaceOff : RequestOf → ResponseOf → Type 0
SomePlaceOff request response = (place : ℕ) × IsOffAt request response place
