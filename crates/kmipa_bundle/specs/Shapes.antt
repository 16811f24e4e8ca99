-- Which answers a call may have at which places: by how each answers alone (profile). Places are counted from 0 here, and reported from 1.
use Rattle.std.specs.Prelude.{◌≡◌, ◌<◌, ◌⊎◌, ℕ, Bool, true, not, ◌&&◌, nat_lt, None, List, map, replicate, Option, Some, slice_get}
use Rattle.kmipa_msgs.specs.Messages.{AskOf, RequestOf, AnswerOf, ResponseOf, idles}
use Rattle.kmipa_msgs.specs.declared.request.BatchOption.{BatchOption}
use Rattle.kmipa_msgs.specs.declared.response.Status.{Status}
use Rattle.kmipa_msgs.specs.declared.response.Status.TheVariants as status
use Rattle.kmipa_passed.specs.declared.passed.Outcome.{Outcome}
use Rattle.kmipa_passed.specs.declared.passed.Outcome.TheVariants.{Done, Undone, Pending, Failed}
use Rattle.kmipa_batch.specs.Shapes.{AnswerShape, NoAnswerShape}
use Rattle.kmipa_places.specs.Calls.{ReadOf}

-- what becomes of the others is decided by those that failed: one that is still to come didn't
abbrev pub status_of : Outcome → Status
status_of Done = status.Success
status_of Undone = status.Undone
status_of Pending = status.Success
status_of Failed = status.Failed

-- an item and an answer of which nothing is known but this status
abbrev pub some_ask : AskOf
some_ask = record { batch_id = None; asked = idles 0 }

abbrev pub with_status : Status → AnswerOf
with_status s = record { operation = None; batch_id = None; status = s; reason = None; payload = None }

abbrev pub answer_as : Outcome → AnswerOf
answer_as outcome = with_status (status_of outcome)

abbrev pub answers_as : List Outcome → List AnswerOf
answers_as outcomes = map answer_as outcomes

-- the call as far as its shape and the order of its items go
abbrev pub request_as : ReadOf → RequestOf
request_as c = record { option = c.option; ordered = c.ordered; items = replicate c.asks some_ask }

abbrev pub response_as : ReadOf → ResponseOf
response_as c = record { stamp = c.stamp; items = answers_as c.outcomes }

-- An answer has its shape as one of its status has. One that is still to come has it where a Success or an Undone answer would have it, and only where
-- the request allows such answers.
abbrev pub OutcomeShape : Bool → BatchOption → ℕ → List Outcome → ℕ → Outcome → Type 0
OutcomeShape pending option asks outcomes place Done = AnswerShape option asks (answers_as outcomes) place (with_status status.Success)
OutcomeShape pending option asks outcomes place Undone = AnswerShape option asks (answers_as outcomes) place (with_status status.Undone)
OutcomeShape pending option asks outcomes place Failed = AnswerShape option asks (answers_as outcomes) place (with_status status.Failed)
OutcomeShape pending option asks outcomes place Pending =
    (pending ≡ true)
    × (AnswerShape option asks (answers_as outcomes) place (with_status status.Success) ⊎ AnswerShape option asks (answers_as outcomes) place (with_status status.Undone))

-- a place has its shape
abbrev pub HasShape : Bool → BatchOption → ℕ → List Outcome → ℕ → Option Outcome → Type 0
HasShape pending option asks outcomes place None = NoAnswerShape option asks (answers_as outcomes) place
HasShape pending option asks outcomes place (Some outcome) = OutcomeShape pending option asks outcomes place outcome

-- this place of the call has its shape
abbrev pub IsShapedAt : ReadOf → ℕ → Type 0
IsShapedAt c place = HasShape c.pending c.option c.asks c.outcomes place (slice_get c.outcomes place)

-- each place before this one has
abbrev pub IsShapedBelow : ReadOf → ℕ → Type 0
IsShapedBelow c count = (place : ℕ) → place < count → IsShapedAt c place

-- each place of the call has
abbrev pub IsShaped : ReadOf → Type 0
IsShaped c = (place : ℕ) → IsShapedAt c place

-- the lowest place of the call without its shape
abbrev pub IsFirstUnshaped : ReadOf → ℕ → Type 0
IsFirstUnshaped c place = IsShapedBelow c place × (IsShapedAt c place → ⊥)

-- the request is without order: its Batch Order Option is False, and it has more than one item
abbrev pub is_unordered : ReadOf → Bool
is_unordered c = not c.ordered && nat_lt 1 c.asks
