-- Revokes are read.
use Rattle.std.proofs.Common.{◌≡◌, refl, inl, inr, [], ◌∷◌, Some, ap, ◌∙◌}
use Rattle.kmipa_ttlv.specs.Tree.{Trees, Tree, scalar}
use Rattle.kmipa_attrs.specs.Fields.{at, inside, as_enumeration, as_text}
use Rattle.kmipa_attrs.specs.Readings.{Reads}
use Rattle.kmipa_attrs.specs.Tags.{revocation_reason, revocation_reason_code, unique_identifier}
use Rattle.kmipa_attrs.proofs.ReadingLemmas.{reads_both, reads_as, reads_needed}
use Rattle.kmipa_msgs.specs.declared.kind.OutsideKind.TheVariants.{Missing}
use Rattle.kmipa_msgs.specs.declared.operation.Operation
use Rattle.kmipa_msgs.specs.Kinds.{kind_number}
use Rattle.kmipa_msgs.specs.Messages.{operation_asked, RevokeOf, AskedOf, revokes}
use Rattle.kmipa_msgs.specs.Revokes.{SaysRevoke, RevokeFault, revoke_rows, revoke_at, revoke_in, written_reason, revoke_fields, AsksRevoke, revoke_row}
use Rattle.kmipa_msgs.specs.Revokes.RevokeFault.{in_identifier, in_code}
use Rattle.kmipa_msgs.proofs.IdentifierLemmas.{reads_identifier, reads_changed, changed_written, changed_filled}
use Rattle.kmipa_ttlv.specs.Tree
use Rattle.kmipa_msgs.specs.WrittenFields.{in_order, field}
use Rattle.kmipa_msgs.specs.Writable.{IsWritableAsked}
use Rattle.kmipa_msgs.proofs.RowLaws.{IsRow}
use Rattle.kmipa_msgs.proofs.WrittenFieldLemmas.{skipped, optional_written, required_written, inside_written}
use Rattle.kmipa_msgs.specs.Rows.{asked_fields}

pub reads_revoke : (ts : Trees) → Reads kind_number (SaysRevoke ts) (RevokeFault ts) (revoke_in ts)
unfolding revoke_in
reads_revoke ts =
    reads_as kind_number _ _ (SaysRevoke ts) (RevokeFault ts) revoke_at (revoke_rows ts)
    (λ p s. record { id = s.1; code = s.0 })
    (λ y t. ((y.code, y.id), (t.code, t.id), refl))
    (λ k f. elim f [ inl w ↦ in_code w | inr w ↦ in_identifier w.0 w.1 ])
    (λ k f. elim f [ in_identifier e w ↦ inr (e, w) | in_code w ↦ inl w ])
    (reads_both kind_number _ _ _ _ _ _ (reads_needed kind_number Missing Missing (at as_enumeration revocation_reason_code (inside revocation_reason ts))) (reads_identifier ts))

-- AS IT IS WRITTEN

revoke_written : (r : RevokeOf) → SaysRevoke (in_order (revoke_fields r)) r
unfolding as_text as_enumeration
revoke_written r = record {
  id = optional_written as_text Tree.text unique_identifier r.id (revoke_fields r) (Some (written_reason r.code) ∷ []) refl refl (λ x. refl) refl;
  code =
      ap (at as_enumeration revocation_reason_code)
      (inside_written revocation_reason revocation_reason (revoke_fields r) (in_order (field Tree.enumeration revocation_reason_code (Some r.code) ∷ [])) (skipped Tree.text unique_identifier revocation_reason r.id (Some (written_reason r.code) ∷ []) refl))
      ∙ required_written as_enumeration revocation_reason_code (field Tree.enumeration revocation_reason_code (Some r.code) ∷ []) (scalar revocation_reason_code (Tree.enumeration r.code)) r.code refl refl;
}

-- ITS ROW

asked_from : (ts : Trees) (y : AskedOf) → AsksRevoke ts y → (x : RevokeOf) × SaysRevoke ts x × (y ≡ revokes x)
asked_from ts (revokes x) s = (x, s, refl)
asked_from ts _ s = absurd s

asked_written : (ts : Trees) (a : AskedOf) → IsWritableAsked a → AsksRevoke ts a → AsksRevoke (in_order (asked_fields a)) a
asked_written ts (revokes x) w s = revoke_written x
asked_written ts _ w s = absurd s

asked_own : (ts : Trees) (a : AskedOf) → AsksRevoke ts a → operation_asked a ≡ Operation.TheVariants.Revoke
asked_own ts (revokes x) s = refl
asked_own ts _ s = absurd s

pub is_revoke_row : IsRow Operation.TheVariants.Revoke revoke_row
is_revoke_row = record {
  own = asked_own;
  reads_asked = λ ts. reads_as kind_number _ _ (AsksRevoke ts) (revoke_row.AskedFault ts) revokes _ (λ x s. s) (asked_from ts) (λ k f. f) (λ k f. f) (reads_revoke ts);
  reads_done = reads_changed;
  asked_written = asked_written;
  done_written = changed_written;
  done_filled = changed_filled;
}
