-- The lists of the operations: the row of each, and how each payload is written.
use Rattle.std.specs.Prelude.{◌≡◌, false, List, [], Option, Ok, Err}
use Rattle.kmipa_ttlv.specs.Tree.{Tree}
use Rattle.kmipa_msgs.specs.declared.kind.OutsideKind.TheVariants.{Missing}
use Rattle.kmipa_msgs.specs.declared.operation.Operation.{Operation}
use Rattle.kmipa_msgs.specs.declared.operation.Operation.TheVariants.{Create, Register, Locate, Get, GetAttributes, Activate, Revoke, Destroy, Idle, Other}
use Rattle.kmipa_msgs.specs.Messages.{AskedOf, creates, registers, locates, gets, gets_attributes, activates, revokes, destroys, idles, does_other, PayloadOf, created, registered, located, got, got_attributes, changed}
use Rattle.kmipa_msgs.specs.Row.{Row}
use Rattle.kmipa_msgs.specs.WrittenFields.{identifier_fields}
use Rattle.kmipa_msgs.specs.Activates.{activate_row}
use Rattle.kmipa_msgs.specs.Creates.{create_fields, create_row}
use Rattle.kmipa_msgs.specs.Destroys.{destroy_row}
use Rattle.kmipa_msgs.specs.Gets.{got_fields, get_row}
use Rattle.kmipa_msgs.specs.GetsAttributes.{get_attributes_fields, got_attributes_fields, get_attributes_row}
use Rattle.kmipa_msgs.specs.Locates.{locate_fields, located_fields, locate_row}
use Rattle.kmipa_msgs.specs.Registers.{register_fields, registered_fields, register_row}
use Rattle.kmipa_msgs.specs.Revokes.{revoke_fields, revoke_row}

-- payloads that aren't read: any children ask for the same, and none answer
abbrev pub unread_row : AskedOf → Row
unread_row asked = record {
  SaysAsked = λ ts a. a ≡ asked;
  AskedFault = λ ts k. ⊥;
  asked_in = λ ts. Ok asked;
  SaysDone = λ ts p. ⊥;
  DoneFault = λ ts k. k ≡ Missing;
  done_in = λ ts. Err Missing;
  may_be_bare = false;
  NeedsPayload = ⊥;
}

abbrev pub operation_row : Operation → Row
operation_row Create = create_row
operation_row Register = register_row
operation_row Locate = locate_row
operation_row Get = get_row
operation_row GetAttributes = get_attributes_row
operation_row Activate = activate_row
operation_row Revoke = revoke_row
operation_row Destroy = destroy_row
operation_row (Idle n) = unread_row (idles n)
operation_row (Other n) = unread_row (does_other n)

-- the fields of a Request Payload; what isn't read is written empty
abbrev pub asked_fields : AskedOf → List (Option Tree)
asked_fields (creates a) = create_fields a
asked_fields (registers r) = register_fields r
asked_fields (locates q) = locate_fields q
asked_fields (gets id) = identifier_fields id
asked_fields (gets_attributes g) = get_attributes_fields g
asked_fields (activates id) = identifier_fields id
asked_fields (revokes r) = revoke_fields r
asked_fields (destroys id) = identifier_fields id
asked_fields _ = []

-- the fields of a Response Payload
abbrev pub payload_fields : PayloadOf → List (Option Tree)
payload_fields (created r) = registered_fields r
payload_fields (registered r) = registered_fields r
payload_fields (located ids) = located_fields ids
payload_fields (got g) = got_fields g
payload_fields (got_attributes g) = got_attributes_fields g
payload_fields (changed id) = identifier_fields id
