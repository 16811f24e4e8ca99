-- The items of a response: Operation?, Unique Batch Item ID?, Result Status, Result Reason?, Response Payload? (KMIP 2.1, section 9).
use Rattle.std.specs.Prelude.{◌≡◌, ◌<◌, ℕ, Bool, true, false, ◌==◌, cond, if◌then◌else◌, Option, Some, None, Result, Ok, Err}
use Rattle.std.specs.Option.{option_map}
use Rattle.kmipa_ttlv.specs.Tree.{Tree, Trees, structure, scalar, none, more}
use Rattle.kmipa_attrs.specs.Fields.{first, at, value_in, as_enumeration, as_bytes}
use Rattle.kmipa_attrs.specs.Readings.{Optional, NeededFault, IsWrong, optional, both, map_ok, and_then}
use Rattle.kmipa_attrs.specs.Tags.{operation_tag, response_payload, result_reason, result_status, unique_batch_item_id}
use Rattle.kmipa_attrs.specs.declared.fields.Field.{Field}
use Rattle.kmipa_attrs.specs.declared.fields.Field.TheVariants.{Absent, Wrong, There}
use Rattle.kmipa_msgs.specs.declared.kind.OutsideKind.{OutsideKind}
use Rattle.kmipa_msgs.specs.declared.kind.OutsideKind
use Rattle.kmipa_msgs.specs.declared.kind.OutsideKind.TheVariants.{Missing, Pending}
use Rattle.kmipa_msgs.specs.declared.operation.Operation.{Operation}
use Rattle.kmipa_msgs.specs.declared.operation.Operation.TheVariants.{Idle, Other}
use Rattle.kmipa_msgs.specs.declared.response.Status.{Status}
use Rattle.kmipa_msgs.specs.declared.response.Status.TheVariants.{Success, Failed, Undone}
use Rattle.kmipa_msgs.specs.declared.response.Payload.{Payload}
use Rattle.kmipa_msgs.specs.Kinds.{kind_number}
use Rattle.kmipa_msgs.specs.Numbers.{status_of}
use Rattle.kmipa_msgs.specs.Operations.{operation_number}
use Rattle.kmipa_msgs.specs.Messages.{AskOf, operation_asked, PayloadOf, payload_of, AnswerOf}
use Rattle.kmipa_msgs.specs.Rows.{operation_row}
use Rattle.kmipa_msgs.specs.Tables.{children, Listed, of_table}
use Rattle.kmipa_msgs.specs.Payloads.{SaysPayloadOf, PayloadOfFault, payload_in}

-- the operation that is answered, where it is the place's own: the request item's, where the answer names none or the same
abbrev pub named : ℕ → Operation → Option Operation
named n operation = if n == operation_number operation then Some operation else None

abbrev pub own : Option AskOf → Field ℕ → Option Operation
own None field = None
own (Some a) Absent = Some (operation_asked a.asked)
own (Some a) Wrong = None
own (Some a) (There n) = named n (operation_asked a.asked)

-- its Response Payload may be absent
abbrev pub may_be_bare : Operation → Bool
may_be_bare operation = (operation_row operation).may_be_bare

-- an absent payload is read as empty where one may be absent
abbrev pub or_empty : Operation → Option Tree → Option Tree
or_empty operation None = cond (may_be_bare operation) (Some (structure response_payload none)) None
or_empty operation (Some t) = Some t

-- a payload that is to be there
abbrev pub SaysRequired : Operation → Option Tree → Option PayloadOf → Type 0
SaysRequired operation (Some t) (Some p) = SaysPayloadOf operation t p
SaysRequired operation _ _ = ⊥

abbrev pub RequiredFault : Operation → Option Tree → OutsideKind → Type 0
RequiredFault operation None k = k ≡ Missing
RequiredFault operation (Some t) k = PayloadOfFault operation t k

-- a payload that may be absent
abbrev pub SaysMaybe : Operation → Option Tree → Option PayloadOf → Type 0
SaysMaybe operation None None = Unit {0}
SaysMaybe operation (Some t) (Some p) = SaysPayloadOf operation t p
SaysMaybe operation _ _ = ⊥

abbrev pub MaybeFault : Operation → Option Tree → OutsideKind → Type 0
MaybeFault operation None k = ⊥
MaybeFault operation (Some t) k = PayloadOfFault operation t k

-- a structure without children
abbrev pub is_bare : Tree → Bool
is_bare (structure n none) = true
is_bare (structure n (more t ts)) = false
is_bare (scalar n s) = false

-- a payload without children is read as absent
abbrev pub filled : Option Tree → Option Tree
filled None = None
filled (Some t) = if is_bare t then None else Some t

-- a payload is read only where it was done
abbrev pub SaysJudged : Operation → Status → Option Tree → Option PayloadOf → Type 0
SaysJudged operation Success t p = SaysRequired operation (or_empty operation t) p
SaysJudged operation Failed t p = p ≡ None
SaysJudged operation Undone t p = SaysMaybe operation (filled t) p

abbrev pub JudgedFault : Operation → Status → Option Tree → OutsideKind → Type 0
JudgedFault operation Success t k = RequiredFault operation (or_empty operation t) k
JudgedFault operation Failed t k = ⊥
JudgedFault operation Undone t k = MaybeFault operation (filled t) k

-- what isn't judged may only fail
abbrev pub SaysUnjudged : Status → Option PayloadOf → Type 0
SaysUnjudged Failed p = p ≡ None
SaysUnjudged _ p = ⊥

abbrev pub UnjudgedFault : Status → OutsideKind → Type 0
UnjudgedFault Failed k = ⊥
UnjudgedFault _ k = k ≡ OutsideKind.TheVariants.Operation

-- a payload is read only at the place's own operation, and not where that has no effect
abbrev pub SaysShown : Option Operation → Status → Option Tree → Option PayloadOf → Type 0
SaysShown None status t p = p ≡ None
SaysShown (Some (Idle n)) status t p = p ≡ None
SaysShown (Some (Other n)) status t p = SaysUnjudged status p
SaysShown (Some operation) status t p = SaysJudged operation status t p

abbrev pub ShownFault : Option Operation → Status → Option Tree → OutsideKind → Type 0
ShownFault None status t k = ⊥
ShownFault (Some (Idle n)) status t k = ⊥
ShownFault (Some (Other n)) status t k = UnjudgedFault status k
ShownFault (Some operation) status t k = JudgedFault operation status t k

-- Result Status: 0, 1 or 3; 2 is Pending
pub data StatusFault (field : Field ℕ) (k : OutsideKind) : Type 0 where
  unread : NeededFault field Missing Missing k → StatusFault field k
  pending : k ≡ Pending → field ≡ There 2 → StatusFault field k
  unknown : (n : ℕ) → k ≡ Missing → field ≡ There n → 3 < n → StatusFault field k

-- the answer at the place of this request item, if there is one
pub record SaysAnswer (a : Option AskOf) (t : Tree) (x : AnswerOf) : Type 0 where
  pub operation : Optional (at as_enumeration operation_tag (children t)) x.operation
  pub batch_id : x.batch_id ≡ value_in (at as_bytes unique_batch_item_id (children t))
  pub status : Listed (at as_enumeration result_status (children t)) status_of x.status
  pub reason : Optional (at as_enumeration result_reason (children t)) x.reason
  pub payload : SaysShown (own a (at as_enumeration operation_tag (children t))) x.status (first response_payload (children t)) x.payload

pub data AnswerFault (a : Option AskOf) (t : Tree) (k : OutsideKind) : Type 0 where
  in_operation : k ≡ Missing → IsWrong (at as_enumeration operation_tag (children t)) → AnswerFault a t k
  in_status : StatusFault (at as_enumeration result_status (children t)) k → AnswerFault a t k
  in_reason : k ≡ Missing → IsWrong (at as_enumeration result_reason (children t)) → AnswerFault a t k
  in_payload : (status : Status) → Listed (at as_enumeration result_status (children t)) status_of status
      → ShownFault (own a (at as_enumeration operation_tag (children t))) status (first response_payload (children t)) k → AnswerFault a t k

-- the readings
abbrev pub status_in : Field ℕ → Result Status OutsideKind
status_in Absent = Err Missing
status_in Wrong = Err Missing
status_in (There n) = if n == 2 then Err Pending else of_table (status_of n) Missing

abbrev pub required_in : Operation → Option Tree → Result (Option PayloadOf) OutsideKind
required_in operation None = Err Missing
required_in operation (Some t) = map_ok Some (payload_in operation t)

abbrev pub maybe_in : Operation → Option Tree → Result (Option PayloadOf) OutsideKind
maybe_in operation None = Ok None
maybe_in operation (Some t) = map_ok Some (payload_in operation t)

abbrev pub judged_in : Operation → Status → Option Tree → Result (Option PayloadOf) OutsideKind
judged_in operation Success t = required_in operation (or_empty operation t)
judged_in operation Failed t = Ok None
judged_in operation Undone t = maybe_in operation (filled t)

abbrev pub unjudged_in : Status → Result (Option PayloadOf) OutsideKind
unjudged_in Failed = Ok None
unjudged_in _ = Err OutsideKind.TheVariants.Operation

abbrev pub shown_in : Option Operation → Status → Option Tree → Result (Option PayloadOf) OutsideKind
shown_in None status t = Ok None
shown_in (Some (Idle n)) status t = Ok None
shown_in (Some (Other n)) status t = unjudged_in status
shown_in (Some operation) status t = judged_in operation status t

-- the status, and the payload that is read by it
abbrev pub beside : Status → Result (Option PayloadOf) OutsideKind → Result (Status × Option PayloadOf) OutsideKind
beside status shown = map_ok (λ p. (status, p)) shown

abbrev pub outcome_in : Option Operation → Trees → Result (Status × Option PayloadOf) OutsideKind
outcome_in operation ts = and_then (λ status. beside status (shown_in operation status (first response_payload ts))) (status_in (at as_enumeration result_status ts))

abbrev pub answer_rows : Option AskOf → Trees → Result ((Option ℕ × Option ℕ) × (Status × Option PayloadOf)) OutsideKind
answer_rows a ts =
    both kind_number (both kind_number (optional (at as_enumeration operation_tag ts) Missing) (optional (at as_enumeration result_reason ts) Missing)) (outcome_in (own a (at as_enumeration operation_tag ts)) ts)

abbrev pub answer_at : Trees → (Option ℕ × Option ℕ) × (Status × Option PayloadOf) → AnswerOf
answer_at ts p = record {
  operation = p.0.0;
  batch_id = value_in (at as_bytes unique_batch_item_id ts);
  status = p.1.0;
  reason = p.0.1;
  payload = p.1.1;
}

unfoldable pub answer_in : Option AskOf → Tree → Result AnswerOf OutsideKind
answer_in a t = map_ok (answer_at (children t)) (answer_rows a (children t))

-- what the program's outcome means
abbrev pub outcome_of : Status × Option Payload → Status × Option PayloadOf
outcome_of p = (p.0, option_map payload_of p.1)
