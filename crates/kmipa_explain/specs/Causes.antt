-- What the reason of a no rests on: of the calls alone who ended before, whose moment is later, which shape, which operation; of the others what was
-- held where the item was refused.
use Rattle.std.specs.Prelude.{◌≡◌, ℕ, ◌+◌, List, Option, Some, None, option_map, is_some, slice_get}
use Rattle.kmipa_msgs.specs.Messages.{AskOf, AnswerOf}
use Rattle.kmipa_record.specs.Declarations.{DeclarationOf}
use Rattle.kmipa_ops.specs.declared.why.Why.{Why}
use Rattle.kmipa_ops.specs.declared.why.Why.TheVariants.{EarlierCallLate, StampRunsBack, BatchShape, OperationDiffers}
use Rattle.kmipa_batch.specs.Shapes.{IsFirstFailed, NoneFailed}
use Rattle.kmipa_batch.specs.Calls.{pairs_of}
use Rattle.kmipa_check.specs.Steps.{StepOf}
use Rattle.kmipa_explain.specs.Calls.{earlier_calls}
use Rattle.kmipa_explain.specs.Items.{number_asked}
use Rattle.kmipa_explain.specs.Holding.{TellsItem}
use Rattle.kmipa_explain.specs.Places.{at_item}
use Rattle.kmipa_explain.specs.Standing.{TellsOfHeld}
use Rattle.kmipa_explain.specs.declared.explanation.Cause.{Cause}
use Rattle.kmipa_explain.specs.declared.explanation.Cause.TheVariants as told
use Rattle.kmipa_explain.specs.declared.explanation.TurnBefore.{TurnBefore}
use Rattle.kmipa_explain.specs.declared.explanation.Shape.{Shape}
use Rattle.kmipa_explain.specs.declared.explanation.Operations.{Operations}

-- this is the turn before, counted from 1, with its call and its moment; turns are counted from 0 here
pub record IsTurnBefore (order : List StepOf) (turn : ℕ) (b : TurnBefore) : Type 0 where
  pub earlier : ℕ
  pub next : earlier + 1 ≡ turn
  pub before : StepOf
  pub there : slice_get order earlier ≡ Some before
  pub reported : b.turn ≡ earlier + 1
  pub call : b.call ≡ before.number
  pub stamp : b.stamp ≡ before.response.stamp

-- the first failed answer, counted from 1, if one failed
abbrev pub FailsFirst : List AnswerOf → Option ℕ → Type 0
FailsFirst answers None = NoneFailed answers
FailsFirst answers (Some item) = (place : ℕ) × (item ≡ place + 1) × IsFirstFailed answers place

-- what the shape of an item is judged by: the option, the first failed item, whether the request has the item, the status of its answer, if it has one
pub record IsShape (c : StepOf) (item : ℕ) (s : Shape) : Type 0 where
  pub option : s.option ≡ c.request.option
  pub failed : FailsFirst c.response.items s.failed
  pub asked : s.asked ≡ is_some (at_item c.request.items item)
  pub status : s.status ≡ option_map (λ (answer : AnswerOf). answer.status) (at_item c.response.items item)

-- the operation that an item asks for, and the one that its answer names
pub record AreOperations (c : StepOf) (item : ℕ) (o : Operations) : Type 0 where
  pub ask : AskOf
  pub answer : AnswerOf
  pub there : at_item (pairs_of c.request c.response) item ≡ Some (ask, answer)
  pub asked : o.asked ≡ number_asked ask
  pub answered : o.answered ≡ answer.operation

abbrev pub TellsEarlier : List StepOf → ℕ → StepOf → Cause → Type 0
TellsEarlier order turn c (told.EarlierCalls numbers) = numbers.items ≡ earlier_calls order turn c
TellsEarlier order turn c other = ⊥

abbrev pub TellsBefore : List StepOf → ℕ → Cause → Type 0
TellsBefore order turn (told.StampBefore b) = IsTurnBefore order turn b
TellsBefore order turn other = ⊥

abbrev pub TellsShape : StepOf → ℕ → Cause → Type 0
TellsShape c item (told.BatchShape s) = IsShape c item s
TellsShape c item other = ⊥

abbrev pub TellsOperations : StepOf → ℕ → Cause → Type 0
TellsOperations c item (told.Operations o) = AreOperations c item o
TellsOperations c item other = ⊥

-- what the reason rests on that is told at this item of this call, which stands at this turn
abbrev pub TellsCause : DeclarationOf → List StepOf → ℕ → StepOf → ℕ → Why → Cause → Type 0
TellsCause declared order turn c item EarlierCallLate cause = TellsEarlier order turn c cause
TellsCause declared order turn c item StampRunsBack cause = TellsBefore order turn cause
TellsCause declared order turn c item BatchShape cause = TellsShape c item cause
TellsCause declared order turn c item OperationDiffers cause = TellsOperations c item cause
TellsCause declared order turn c item why cause = TellsOfHeld declared order turn c item (TellsItem why c.response.stamp cause)
