-- What an explanation stands on. Not promised: each no has it.
use Rattle.std.specs.Prelude.{◌≡◌, ◌≢◌, ◌≤◌, ℕ, ◌+◌, List, Some, slice_get}
use Rattle.kmipa_msgs.specs.Messages.{AskOf, AnswerOf}
use Rattle.kmipa_ops.specs.declared.why.Why.TheVariants.{EarlierCallLate, StampRunsBack, BatchShape, OperationDiffers}
use Rattle.kmipa_ops.specs.declared.why.Why.{Why}
use Rattle.kmipa_record.specs.Declarations.{DeclarationOf}
use Rattle.kmipa_record.specs.Marks.{MarkOf, begins}
use Rattle.kmipa_batch.specs.Calls.{pairs_of}
use Rattle.kmipa_check.specs.Steps.{StepOf}
use Rattle.kmipa_check.specs.declared.verdict.Refused.{Refused}
use Rattle.kmipa_explain.specs.Places.{at_item}
use Rattle.kmipa_explain.specs.Replaying.{IsItemRefused}

-- the call has its begin mark
pub record IsBegun (marks : List MarkOf) (c : StepOf) : Type 0 where
  pub client : List ℕ
  pub asked : List ℕ
  pub there : slice_get marks c.begin ≡ Some (begins c.number client asked)

-- the item has an ask and an answer
abbrev pub HasPair : StepOf → ℕ → Type 0
HasPair c item = (ask : AskOf) × (answer : AnswerOf) × (at_item (pairs_of c.request c.response) item ≡ Some (ask, answer))

-- an item of the call is refused for the reason
abbrev pub IsRefusedThere : DeclarationOf → List StepOf → ℕ → StepOf → ℕ → Why → Type 0
IsRefusedThere declared order turn c item why = (place : ℕ) × (item ≡ place + 1) × IsItemRefused declared order turn c place why

-- the reason isn't one of turns or of shapes
pub record IsOfItems (why : Why) : Type 0 where
  pub in_time : why ≢ EarlierCallLate
  pub stamped : why ≢ StampRunsBack
  pub shaped : why ≢ BatchShape

-- the step stands at the turn; a stamp can't run back at the first turn, operations differ only where there are two, and other reasons are of items
pub record IsRefusedHere (declared : DeclarationOf) (order : List StepOf) (turn : ℕ) (c : StepOf) (item : ℕ) (why : Why) : Type 0 where
  pub there : slice_get order turn ≡ Some c
  pub behind : why ≡ StampRunsBack → 1 ≤ turn
  pub pair : why ≡ OperationDiffers → HasPair c item
  pub refused_item : IsOfItems why → IsRefusedThere declared order turn c item why

pub record IsExplainable (marks : List MarkOf) (declared : DeclarationOf) (order : List StepOf) (r : Refused) : Type 0 where
  pub turn : ℕ
  pub reported : r.turn ≡ turn + 1
  pub call : StepOf
  pub begun : IsBegun marks call
  pub refused : IsRefusedHere declared order turn call r.item r.why
