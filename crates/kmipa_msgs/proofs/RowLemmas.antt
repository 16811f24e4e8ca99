-- The list of the operations: the laws of each row.
use Rattle.std.proofs.Common.{refl, ap, subst}
use Rattle.kmipa_msgs.specs.declared.kind.OutsideKind.TheVariants.{Missing}
use Rattle.kmipa_msgs.specs.declared.operation.Operation.{Operation}
use Rattle.kmipa_msgs.specs.declared.operation.Operation.TheVariants.{Create, Register, Locate, Get, GetAttributes, Activate, Revoke, Destroy, Idle, Other}
use Rattle.kmipa_msgs.specs.Messages.{AskedOf, idles, does_other, operation_asked}
use Rattle.kmipa_msgs.specs.Rows.{unread_row, operation_row}
use Rattle.kmipa_msgs.specs.Writable.{IsWritableAsked}
use Rattle.kmipa_msgs.proofs.RowLaws.{IsRow}
use Rattle.kmipa_msgs.proofs.TableLemmas.{same_kind}
use Rattle.kmipa_msgs.proofs.ActivateLemmas.{is_activate_row}
use Rattle.kmipa_msgs.proofs.CreateLemmas.{is_create_row}
use Rattle.kmipa_msgs.proofs.DestroyLemmas.{is_destroy_row}
use Rattle.kmipa_msgs.proofs.GetLemmas.{is_get_row}
use Rattle.kmipa_msgs.proofs.GetAttributesLemmas.{is_get_attributes_row}
use Rattle.kmipa_msgs.proofs.LocateLemmas.{is_locate_row}
use Rattle.kmipa_msgs.proofs.RegisterLemmas.{is_register_row}
use Rattle.kmipa_msgs.proofs.RevokeLemmas.{is_revoke_row}

-- what isn't read is not written
is_unread_row : (asked : AskedOf) → (IsWritableAsked asked → ⊥) → IsRow (operation_asked asked) (unread_row asked)
is_unread_row asked never = record {
  own = λ ts a s. ap operation_asked s;
  reads_asked = λ ts. record { said = refl; only = λ y e. e; right = λ k w. w };
  reads_done = λ ts. record { here = refl; least = λ j lt w. same_kind j Missing lt w };
  asked_written = λ ts a w s. absurd (never (subst IsWritableAsked s w));
  done_written = λ ts p s. absurd s;
  done_filled = λ ts p bare s. absurd s;
}

pub is_row : (operation : Operation) → IsRow operation (operation_row operation)
is_row Create = is_create_row
is_row Register = is_register_row
is_row Locate = is_locate_row
is_row Get = is_get_row
is_row GetAttributes = is_get_attributes_row
is_row Activate = is_activate_row
is_row Revoke = is_revoke_row
is_row Destroy = is_destroy_row
is_row (Idle n) = is_unread_row (idles n) (λ w. w)
is_row (Other n) = is_unread_row (does_other n) (λ w. w)
