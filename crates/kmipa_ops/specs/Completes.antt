-- What may stand where an Undone answer leaves its payload out (profile).
use Rattle.std.specs.Prelude.{◌≡◌, ℕ, ℤ, Bool, true, List, Option, Some, None}
use Rattle.kmipa_object.specs.Inventory.{Thing}
use Rattle.kmipa_msgs.specs.Messages.{RulesOf, AskedOf, AskOf, PayloadOf, AnswerOf}
use Rattle.kmipa_msgs.specs.declared.response.Status.{Status}
use Rattle.kmipa_msgs.specs.declared.response.Status.TheVariants.{Success, Failed, Undone}
use Rattle.kmipa_ops.specs.Does.{Does}
use Rattle.kmipa_ops.specs.Row.{Deed, deed, idle, unknown, row_is_of, row_may_lack, row_is_idle, Row}
use Rattle.kmipa_ops.specs.Rows.{asked_row}

-- the payload is one of the operation asked for
abbrev pub is_of : AskedOf → PayloadOf → Bool
is_of asked payload = row_is_of (asked_row asked) payload

-- a payload of the operation, that a message can carry
pub record IsFill (d : Deed) (filled : Option PayloadOf) : Type 0 where
  pub shown : d.Shown
  pub is : filled ≡ Some (d.payload shown)
  pub sayable : d.says shown

-- what may stand in the place of an absent payload: some payload of the operation, or none where its payloads aren't read
abbrev pub FillsRow : Row → Option PayloadOf → Type 0
FillsRow (deed d) filled = IsFill d filled
FillsRow idle filled = filled ≡ None
FillsRow unknown filled = filled ≡ None

abbrev pub FillsAbsent : AskedOf → Option PayloadOf → Type 0
FillsAbsent asked filled = FillsRow (asked_row asked) filled

-- the payload itself; but where an Undone answer has none, what may stand in its place
abbrev pub Fills : AskedOf → Status → Option PayloadOf → Option PayloadOf → Type 0
Fills asked Undone None filled = FillsAbsent asked filled
Fills asked Undone (Some payload) filled = filled ≡ Some payload
Fills asked Success payload filled = filled ≡ payload
Fills asked Failed payload filled = filled ≡ payload

-- the full answer is the answer, where its payload may have been put in
pub record CompletesAnswer (ask : AskOf) (answer full : AnswerOf) : Type 0 where
  pub operation : full.operation ≡ answer.operation
  pub batch_id : full.batch_id ≡ answer.batch_id
  pub status : full.status ≡ answer.status
  pub reason : full.reason ≡ answer.reason
  pub payload : Fills ask.asked answer.status answer.payload full.payload

-- some full answer completes it, and that one is done
pub record DoesSome (rules : RulesOf) (V : List Thing) (before : Option (List ℕ)) (t : ℤ) (ask : AskOf) (answer : AnswerOf) (V' : List Thing) (after : Option (List ℕ)) : Type 0 where
  pub full : AnswerOf
  pub completes : CompletesAnswer ask answer full
  pub does : Does rules V before t ask full V' after

-- Where there is a payload to judge: at an answer to the operation asked for, a Success has the payload of that operation, and so has an
-- Undone Create, Register or Locate; an Undone answer of another operation has it or none. An operation without effect has none.
abbrev pub may_lack : AskedOf → Bool
may_lack asked = row_may_lack (asked_row asked)

abbrev pub is_idle : AskedOf → Bool
is_idle asked = row_is_idle (asked_row asked)

abbrev pub has_payload : AskedOf → Option PayloadOf → Bool
has_payload asked None = is_idle asked
has_payload asked (Some payload) = is_of asked payload

abbrev pub may_have : AskedOf → Option PayloadOf → Bool
may_have asked None = may_lack asked
may_have asked (Some payload) = is_of asked payload

abbrev pub can_judge : Status → AskedOf → Option PayloadOf → Bool
can_judge Success asked payload = has_payload asked payload
can_judge Undone asked payload = may_have asked payload
can_judge Failed asked payload = true
