-- The items of a request: Operation, Unique Batch Item ID?, Request Payload (KMIP 2.1, section 9).
use Rattle.std.specs.Prelude.{◌≡◌, ℕ, Bool, true, false, not, ◌&&◌, cond, is_none, Result, Ok}
use Rattle.kmipa_ttlv.specs.Tree.{Tree, Trees}
use Rattle.kmipa_attrs.specs.Fields.{at, inside, value_in, as_structure, as_enumeration, as_bytes}
use Rattle.kmipa_attrs.specs.Readings.{NeededFault, IsWrong, needed, both, map_ok, and_then, passing}
use Rattle.kmipa_attrs.specs.Tags.{operation_tag, request_payload, unique_batch_item_id}
use Rattle.kmipa_attrs.specs.declared.fields.Field.{Field}
use Rattle.kmipa_attrs.specs.declared.fields.Field.TheVariants.{Absent, Wrong, There}
use Rattle.kmipa_msgs.specs.declared.kind.OutsideKind.{OutsideKind}
use Rattle.kmipa_msgs.specs.declared.kind.OutsideKind.TheVariants.{Missing, Unordered}
use Rattle.kmipa_msgs.specs.declared.operation.Operation.{Operation}
use Rattle.kmipa_msgs.specs.Kinds.{kind_number}
use Rattle.kmipa_msgs.specs.Operations.{operation_of, is_judged}
use Rattle.kmipa_msgs.specs.Messages.{AskedOf, gets, gets_attributes, activates, revokes, destroys, AskOf}
use Rattle.kmipa_msgs.specs.Rows.{operation_row}
use Rattle.kmipa_msgs.specs.Tables.{children, unless_wrong}

-- the children of a Request Payload say what the operation asks for, as its row has it
abbrev pub SaysAsked : Operation → Trees → AskedOf → Type 0
SaysAsked operation ts a = (operation_row operation).SaysAsked ts a

abbrev pub AskedFault : Operation → Trees → OutsideKind → Type 0
AskedFault operation ts k = (operation_row operation).AskedFault ts k

-- the field is there, and its number is that of the operation
abbrev pub TellsOperation : Field ℕ → Operation → Type 0
TellsOperation Absent operation = ⊥
TellsOperation Wrong operation = ⊥
TellsOperation (There number) operation = operation ≡ operation_of number

-- an absent Request Payload is read as empty; a Unique Batch Item ID of another type is read over
pub record SaysAsk (t : Tree) (a : AskOf) : Type 0 where
  pub operation : Operation
  pub is : TellsOperation (at as_enumeration operation_tag (children t)) operation
  pub asked : SaysAsked operation (inside request_payload (children t)) a.asked
  pub batch_id : a.batch_id ≡ value_in (at as_bytes unique_batch_item_id (children t))

-- a Request Payload is to be a structure where it is read
pub data AskFault (t : Tree) (k : OutsideKind) : Type 0 where
  in_operation : NeededFault (at as_enumeration operation_tag (children t)) Missing Missing k → AskFault t k
  in_payload : (operation : Operation) → TellsOperation (at as_enumeration operation_tag (children t)) operation
      → is_judged operation ≡ true → k ≡ Missing → IsWrong (at as_structure request_payload (children t)) → AskFault t k
  in_asked : (operation : Operation) → TellsOperation (at as_enumeration operation_tag (children t)) operation
      → AskedFault operation (inside request_payload (children t)) k → AskFault t k

-- an operation on an object that names none, so that the ID Placeholder is meant
abbrev pub means_placeholder : AskedOf → Bool
means_placeholder (gets id) = is_none id
means_placeholder (gets_attributes g) = is_none g.id
means_placeholder (activates id) = is_none id
means_placeholder (revokes r) = is_none r.id
means_placeholder (destroys id) = is_none id
means_placeholder asked = false

-- In a request without order no item may mean the ID Placeholder, since no item is the one before it (profile).
pub data ItemFault (unordered : Bool) (t : Tree) (k : OutsideKind) : Type 0 where
  in_ask : AskFault t k → ItemFault unordered t k
  in_order : k ≡ Unordered → unordered ≡ true → (ask : AskOf) → SaysAsk t ask → means_placeholder ask.asked ≡ true → ItemFault unordered t k

-- the readings
abbrev pub asked_in : Operation → Trees → Result AskedOf OutsideKind
asked_in operation ts = (operation_row operation).asked_in ts

-- a Request Payload that is read is a structure
abbrev pub form_in : Operation → Field Trees → Result (Unit {0}) OutsideKind
form_in operation field = cond (is_judged operation) (unless_wrong field Missing) (Ok tt)

abbrev pub payload_asked : Operation → Trees → Result AskedOf OutsideKind
payload_asked operation ts = map_ok (λ p. p.1) (both kind_number (form_in operation (at as_structure request_payload ts)) (asked_in operation (inside request_payload ts)))

abbrev pub operation_in : Trees → Result Operation OutsideKind
operation_in ts = map_ok operation_of (needed (at as_enumeration operation_tag ts) Missing Missing)

abbrev pub ask_at : Trees → AskedOf → AskOf
ask_at ts asked = record { batch_id = value_in (at as_bytes unique_batch_item_id ts); asked = asked }

unfoldable pub ask_in : Tree → Result AskOf OutsideKind
ask_in t = map_ok (ask_at (children t)) (and_then (λ operation. payload_asked operation (children t)) (operation_in (children t)))

abbrev pub may_stand : Bool → AskOf → Bool
may_stand unordered ask = not (unordered && means_placeholder ask.asked)

abbrev pub item_in : Bool → Tree → Result AskOf OutsideKind
item_in unordered t = passing (may_stand unordered) Unordered (ask_in t)
