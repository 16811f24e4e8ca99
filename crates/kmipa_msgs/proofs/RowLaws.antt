-- What each operation proves of its row.
use Rattle.std.proofs.Common.{◌≡◌, Some}
use Rattle.kmipa_ttlv.specs.Tree.{Trees}
use Rattle.kmipa_attrs.specs.Readings.{Reads}
use Rattle.kmipa_msgs.specs.declared.operation.Operation.{Operation}
use Rattle.kmipa_msgs.specs.Kinds.{kind_number}
use Rattle.kmipa_msgs.specs.Messages.{AskedOf, operation_asked, PayloadOf}
use Rattle.kmipa_msgs.specs.Row.{Row}
use Rattle.kmipa_msgs.specs.Rows.{asked_fields, payload_fields}
use Rattle.kmipa_msgs.specs.Replies.{filled}
use Rattle.kmipa_msgs.specs.Writable.{IsWritableAsked, SaysNothing}
use Rattle.kmipa_msgs.specs.Written.{written_payload}
use Rattle.kmipa_msgs.specs.WrittenFields.{in_order}

-- the row is that of the operation
pub record IsRow (operation : Operation) (r : Row) : Type 0 where
  -- what it asks for is that operation
  pub own : (ts : Trees) (a : AskedOf) → r.SaysAsked ts a → operation_asked a ≡ operation
  -- its readings give what is said, or the lowest fault
  pub reads_asked : (ts : Trees) → Reads kind_number (r.SaysAsked ts) (r.AskedFault ts) (r.asked_in ts)
  pub reads_done : (ts : Trees) → Reads kind_number (r.SaysDone ts) (r.DoneFault ts) (r.done_in ts)
  -- what is written says what was to be written
  pub asked_written : (ts : Trees) (a : AskedOf) → IsWritableAsked a → r.SaysAsked ts a → r.SaysAsked (in_order (asked_fields a)) a
  pub done_written : (ts : Trees) (p : PayloadOf) → r.SaysDone ts p → r.SaysDone (in_order (payload_fields p)) p
  -- a payload that says something is written with children
  pub done_filled : (ts : Trees) (p : PayloadOf) → (SaysNothing p → ⊥) → r.SaysDone ts p → filled (Some (written_payload p)) ≡ Some (written_payload p)
