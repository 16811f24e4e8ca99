-- How calls are opened, and what is asked for where an answer is tried. Not promised: only the readers' own proofs speak of it.
use Rattle.std.specs.Prelude.{◌≡◌, ◌+◌, ℕ, Bool, true, false, Option, Some, None, Ok}
use Rattle.kmipa_ttlv.specs.Tree.{Tree}
use Rattle.kmipa_attrs.specs.declared.fields.Field.{Field}
use Rattle.kmipa_attrs.specs.declared.fields.Field.TheVariants.{Absent, Wrong, There}
use Rattle.kmipa_msgs.specs.declared.kind.OutsideKind.{OutsideKind}
use Rattle.kmipa_msgs.specs.declared.operation.Operation.{Operation}
use Rattle.kmipa_msgs.specs.Headers.{batch}
use Rattle.kmipa_msgs.specs.Messages.{AskOf, operation_asked}
use Rattle.kmipa_msgs.specs.Operations.{operation_of}
use Rattle.kmipa_msgs.specs.Requests.{HeaderOf, header_in, is_without_order}
use Rattle.kmipa_msgs.specs.Responses.{StampFault}
use Rattle.kmipa_places.specs.Counting.{UnreadCountsOf, is_judged_operation}
use Rattle.kmipa_places.specs.Outcomes.{some_unread}
use Rattle.kmipa_places.specs.Places.{operation_at}
use Rattle.kmipa_places.specs.Readings.{HasFault, WayOf, judges, passes}
use Rattle.kmipa_places.specs.declared.place.By.{By}
use Rattle.kmipa_places.specs.declared.place.By.TheVariants.{Request, Answer, Witness}

-- ---- messages

-- the headers of a request can be read, and it is with or without order
pub record IsOpen (t : Tree) (unordered : Bool) : Type 0 where
  pub header : HeaderOf
  pub is : header_in t ≡ Ok header
  pub order : unordered ≡ is_without_order t

-- a request, none where its bytes aren't exactly one item, is opened
abbrev pub Opened : Option Tree → Option Bool → Type 0
Opened None None = Unit {0}
Opened None (Some unordered) = ⊥
Opened (Some t) None = HasFault (header_in t)
Opened (Some t) (Some unordered) = IsOpen t unordered

-- a response can't be read
pub data IsResponseUnread (response : Option Tree) : Type 0 where
  no_message : response ≡ None → IsResponseUnread response
  in_header : (u : Tree) → response ≡ Some u → (k : OutsideKind) → StampFault u k → IsResponseUnread response
  in_answers : (u : Tree) → response ≡ Some u → some_unread (batch u) ≡ true → IsResponseUnread response

-- ---- items that are counted

-- by what a place of a call counts that can't be read, where its request can: by the way in which it would be read if the witness set it aside
abbrev pub counted_by : Bool → WayOf → By
counted_by unread (passes Request) = Request
counted_by true way = Answer
counted_by false (passes by) = by
counted_by false (judges ask answer) = Witness

abbrev pub total_unread : UnreadCountsOf → ℕ
total_unread n = n.request + n.answer + n.witness

-- ---- answers that are tried

-- some item asks for this operation, where it is judged
abbrev pub AsksJudged : Operation → Option AskOf → Type 0
AsksJudged operation None = is_judged_operation operation ≡ false
AsksJudged operation (Some ask) = (is_judged_operation operation ≡ true) × (operation_asked ask.asked ≡ operation)

-- for the operation of this number
abbrev pub AsksNumber : Field ℕ → Option AskOf → Type 0
AsksNumber Absent ask = ask ≡ None
AsksNumber Wrong ask = ask ≡ None
AsksNumber (There n) ask = AsksJudged (operation_of n) ask

-- the Operation of an item, where there is one
abbrev pub operation_in : Option Tree → Field ℕ
operation_in None = Absent
operation_in (Some t) = operation_at t
