-- The payloads that a witness has to give.
use Rattle.std.specs.Prelude.{◌≡◌, ℕ, Option, Some, None}
use Rattle.kmipa_msgs.specs.declared.operation.Operation.{Operation}
use Rattle.kmipa_msgs.specs.declared.response.Status.TheVariants.{Undone}
use Rattle.kmipa_msgs.specs.Operations.{operation_number}
use Rattle.kmipa_msgs.specs.Rows.{operation_row}
use Rattle.kmipa_msgs.specs.Messages.{AskOf, operation_asked, AnswerOf}

-- what it did can't be judged without its payload
abbrev pub NeedsPayload : Operation → Type 0
NeedsPayload operation = (operation_row operation).NeedsPayload

-- an answer names no operation, or this one
abbrev pub IsOwn : ℕ → Option ℕ → Type 0
IsOwn number None = Unit {0}
IsOwn number (Some named) = named ≡ number

-- the item was undone, at its own operation, and its payload isn't there
pub record Wanted (a : AskOf) (x : AnswerOf) : Type 0 where
  pub asks : NeedsPayload (operation_asked a.asked)
  pub own : IsOwn (operation_number (operation_asked a.asked)) x.operation
  pub undone : x.status ≡ Undone
  pub absent : x.payload ≡ None
