-- Destroys are read.
use Rattle.std.proofs.Common.{◌≡◌, ℕ, List, Option, refl}
use Rattle.kmipa_ttlv.specs.Tree.{Trees}
use Rattle.kmipa_attrs.proofs.ReadingLemmas.{reads_as}
use Rattle.kmipa_msgs.specs.Messages.{operation_asked, AskedOf, destroys}
use Rattle.kmipa_msgs.specs.declared.operation.Operation
use Rattle.kmipa_msgs.specs.Kinds.{kind_number}
use Rattle.kmipa_msgs.specs.WrittenFields.{in_order}
use Rattle.kmipa_msgs.specs.Writable.{IsWritableAsked}
use Rattle.kmipa_msgs.proofs.RowLaws.{IsRow}
use Rattle.kmipa_msgs.specs.Rows.{asked_fields}
use Rattle.kmipa_msgs.proofs.IdentifierLemmas.{reads_identifier, identifier_written, reads_changed, changed_written, changed_filled}
use Rattle.kmipa_msgs.specs.Identifiers.{SaysIdentifier}
use Rattle.kmipa_msgs.specs.Destroys.{AsksDestroy, destroy_row}

-- ITS ROW

asked_from : (ts : Trees) (y : AskedOf) → AsksDestroy ts y → (x : Option (List ℕ)) × SaysIdentifier ts x × (y ≡ destroys x)
asked_from ts (destroys x) s = (x, s, refl)
asked_from ts _ s = absurd s

asked_written : (ts : Trees) (a : AskedOf) → IsWritableAsked a → AsksDestroy ts a → AsksDestroy (in_order (asked_fields a)) a
asked_written ts (destroys x) w s = identifier_written x
asked_written ts _ w s = absurd s

asked_own : (ts : Trees) (a : AskedOf) → AsksDestroy ts a → operation_asked a ≡ Operation.TheVariants.Destroy
asked_own ts (destroys x) s = refl
asked_own ts _ s = absurd s

pub is_destroy_row : IsRow Operation.TheVariants.Destroy destroy_row
is_destroy_row = record {
  own = asked_own;
  reads_asked = λ ts. reads_as kind_number _ _ (AsksDestroy ts) (destroy_row.AskedFault ts) destroys _ (λ x s. s) (asked_from ts) (λ k f. f) (λ k f. f) (reads_identifier ts);
  reads_done = reads_changed;
  asked_written = asked_written;
  done_written = changed_written;
  done_filled = changed_filled;
}
