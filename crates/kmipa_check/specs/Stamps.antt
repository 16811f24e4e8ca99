-- When a call was answered.
use Rattle.std.specs.Prelude.{◌≡◌, ◌≢◌, ℕ, ℤ, List, AllPairs, Contains, slice_get, Option, Some, None, Result, Ok, Err}
use Rattle.kmipa_record.specs.Marks.{MarkOf, AreRecorded}
use Rattle.kmipa_record.specs.Witnesses.{TurnOf}
use Rattle.kmipa_msgs.specs.Messages.{RequestOf, ResponseOf, response_of}
use Rattle.kmipa_msgs.specs.declared.response.Response.{Response}
use Rattle.kmipa_check.specs.Calls.{CallOf, AreRequest, AreResponse, HasBegin, HasEnd, IsRecorded}
use Rattle.kmipa_check.specs.declared.fault.StepFault.{StepFault}
use Rattle.kmipa_check.specs.declared.fault.StepFault.TheVariants.{Unfit, Memory}

-- A recorded call of this number has a response with this Time Stamp: the recorded one, or, of an open call, that of the answer of a turn
-- that names it.
pub data IsAnsweredAt (marks : List MarkOf) (turns : List TurnOf) (number stamp : ℤ) : Type 0 where
  by_mark : (c : CallOf) (response : ResponseOf) → IsRecorded marks c → c.number ≡ number → c.response ≡ Some response → response.stamp ≡ stamp
      → IsAnsweredAt marks turns number stamp
  by_turn : (c : CallOf) (t : TurnOf) (bytes : List ℕ) (response : ResponseOf) → IsRecorded marks c → c.number ≡ number → c.response ≡ None → Contains turns t
      → t.call ≡ number → t.answer ≡ Some bytes → AreResponse c.request bytes response → response.stamp ≡ stamp → IsAnsweredAt marks turns number stamp

-- the Time Stamp of the response of the call of this number; none where a whole transcript, and turns that name no call twice, have none
abbrev pub TellsStamp : List MarkOf → List TurnOf → ℤ → Option ℤ → Type 0
TellsStamp marks turns number (Some stamp) = IsAnsweredAt marks turns number stamp
TellsStamp marks turns number None =
    AreRecorded marks → AllPairs (λ (t u : TurnOf). t.call ≢ u.call) turns → (stamp : ℤ) → IsAnsweredAt marks turns number stamp → ⊥

-- ---- what the reading tells, not promised

-- the begin mark at this place has this number and this message
abbrev pub BeginsAt : List MarkOf → ℤ → List ℕ → ℕ → Type 0
BeginsAt marks number asked place = HasBegin marks number place asked

-- the end mark at this place has this number and this message
abbrev pub EndsAt : List MarkOf → ℤ → List ℕ → ℕ → Type 0
EndsAt marks number answered place = HasEnd marks number place answered

-- the turn at this place names this number and gives this answer
pub record AnswersAt (turns : List TurnOf) (number : ℤ) (bytes : List ℕ) (place : ℕ) : Type 0 where
  pub turn : TurnOf
  pub there : slice_get turns place ≡ Some turn
  pub named : turn.call ≡ number
  pub answer : turn.answer ≡ Some bytes

-- the message that answers the call: that of its end mark, or, where it has none, the answer of a turn
pub data IsMessage (marks : List MarkOf) (turns : List TurnOf) (number : ℤ) (bytes : List ℕ) : Type 0 where
  of_mark : (place : ℕ) → EndsAt marks number bytes place → IsMessage marks turns number bytes
  of_turn : ((place : ℕ) (answered : List ℕ) → EndsAt marks number answered place → ⊥) → (place : ℕ) → AnswersAt turns number bytes place → IsMessage marks turns number bytes

-- the messages say this response; or they say none, or memory ran out
abbrev pub ResponseSaid : List ℕ → List ℕ → Result Response StepFault → Type 0
ResponseSaid asked bytes (Ok response) = (request : RequestOf) × AreRequest asked request × AreResponse request bytes (response_of response)
ResponseSaid asked bytes (Err (Unfit kind)) = (request : RequestOf) (response : ResponseOf) → AreRequest asked request → AreResponse request bytes response → ⊥
ResponseSaid asked bytes (Err Memory) = Unit {0}
