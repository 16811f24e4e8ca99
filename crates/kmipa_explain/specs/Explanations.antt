-- What an explanation of a no claims.
use Rattle.std.specs.Prelude.{◌≡◌, ℕ, ◌+◌, List, Option, Some, option_map, slice_get}
use Rattle.std.specs.String.{string_bytes}
use Rattle.kmipa_record.specs.Declarations.{DeclarationOf}
use Rattle.kmipa_record.specs.Marks.{MarkOf, begins}
use Rattle.kmipa_record.specs.Witnesses.{TurnOf}
use Rattle.kmipa_check.specs.Calls.{CallOf, AreCalls}
use Rattle.kmipa_check.specs.Grants.{grants_declared}
use Rattle.kmipa_check.specs.Steps.{StepOf}
use Rattle.kmipa_check.specs.Orders.{IsOrder}
use Rattle.kmipa_check.specs.declared.verdict.Refused.{Refused}
use Rattle.kmipa_explain.specs.Calls.{overlapping_calls}
use Rattle.kmipa_explain.specs.Causes.{TellsCause}
use Rattle.kmipa_explain.specs.Items.{number_asked}
use Rattle.kmipa_explain.specs.Places.{at_item}
use Rattle.kmipa_explain.specs.Stories.{TellsStory}
use Rattle.kmipa_explain.specs.Whence.{TellsWhence}
use Rattle.kmipa_explain.specs.declared.explanation.Explanation.{Explanation}

-- the begin mark of the call names this client
abbrev pub IsClient : List MarkOf → StepOf → List ℕ → Type 0
IsClient marks c client = (asked : List ℕ) × (slice_get marks c.begin ≡ Some (begins c.number client asked))

-- the operation that is asked for at an item; none where the turn itself is meant, or the request has no such item
abbrev pub operation_at : StepOf → ℕ → Option ℕ
operation_at c item = option_map number_asked (at_item c.request.items item)

-- each claim holds of the call that the refused turn takes in this order, from this declaration
pub record ExplainsIn (marks : List MarkOf) (declared : DeclarationOf) (order : List StepOf) (r : Refused) (e : Explanation) : Type 0 where
  pub turn : ℕ
  pub reported : r.turn ≡ turn + 1
  pub call : StepOf
  pub there : slice_get order turn ≡ Some call
  pub client : IsClient marks call (string_bytes e.client)
  pub stamp : e.stamp ≡ call.response.stamp
  pub operation : e.operation ≡ operation_at call r.item
  pub overlapping : e.overlapping.items ≡ overlapping_calls order turn call
  pub cause : TellsCause declared order turn call r.item r.why e.cause
  pub whence : TellsWhence declared order turn call r e.cause e.whence
  pub story : TellsStory declared order r e.story

-- it is an explanation of this no, in the order that the witness gives to the calls of the transcript
pub record Explains (marks : List MarkOf) (declared : DeclarationOf) (turns : List TurnOf) (r : Refused) (e : Explanation) : Type 0 where
  pub calls : List CallOf
  pub are : AreCalls marks calls
  pub order : List StepOf
  pub formed : IsOrder (grants_declared declared) calls turns order
  pub explains : ExplainsIn marks declared order r e
