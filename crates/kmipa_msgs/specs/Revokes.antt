-- Revoke: the request { Unique Identifier?, Revocation Reason { Revocation Reason Code } } (KMIP 2.1, section 6.1).
use Rattle.std.specs.Prelude.{◌≡◌, ℕ, true, List, [], ◌∷◌, Option, Some, Result}
use Rattle.kmipa_ttlv.specs.Tree.{Tree, Trees, structure}
use Rattle.kmipa_ttlv.specs.Tree
use Rattle.kmipa_attrs.specs.Fields.{at, inside, as_text, as_enumeration}
use Rattle.kmipa_attrs.specs.Readings.{Optional, IsWrong, NeededFault, needed, both, map_ok}
use Rattle.kmipa_attrs.specs.Tags.{revocation_reason, revocation_reason_code, unique_identifier}
use Rattle.kmipa_attrs.specs.declared.fields.Field.TheVariants.{There}
use Rattle.kmipa_msgs.specs.declared.kind.OutsideKind.{OutsideKind}
use Rattle.kmipa_msgs.specs.declared.kind.OutsideKind.TheVariants.{IdentifierForm, Missing}
use Rattle.kmipa_msgs.specs.Kinds.{kind_number}
use Rattle.kmipa_msgs.specs.Messages.{RevokeOf, AskedOf, revokes}
use Rattle.kmipa_msgs.specs.Identifiers.{identifier_in, IdentifierFault, SaysChanged, changed_in}
use Rattle.kmipa_msgs.specs.Row.{Row}
use Rattle.kmipa_msgs.specs.WrittenFields.{in_order, field}

pub record SaysRevoke (ts : Trees) (r : RevokeOf) : Type 0 where
  pub id : Optional (at as_text unique_identifier ts) r.id
  pub code : at as_enumeration revocation_reason_code (inside revocation_reason ts) ≡ There r.code

-- a Revocation Reason that is absent or no structure has no code
pub data RevokeFault (ts : Trees) (k : OutsideKind) : Type 0 where
  in_identifier : k ≡ IdentifierForm → IsWrong (at as_text unique_identifier ts) → RevokeFault ts k
  in_code : NeededFault (at as_enumeration revocation_reason_code (inside revocation_reason ts)) Missing Missing k → RevokeFault ts k

-- the reading
abbrev pub revoke_rows : Trees → Result (ℕ × Option (List ℕ)) OutsideKind
revoke_rows ts = both kind_number (needed (at as_enumeration revocation_reason_code (inside revocation_reason ts)) Missing Missing) (identifier_in ts)

abbrev pub revoke_at : ℕ × Option (List ℕ) → RevokeOf
revoke_at p = record { id = p.1; code = p.0 }

unfoldable pub revoke_in : Trees → Result RevokeOf OutsideKind
revoke_in ts = map_ok revoke_at (revoke_rows ts)

-- AS IT IS WRITTEN

abbrev pub written_reason : ℕ → Tree
written_reason code = structure revocation_reason (in_order (field Tree.enumeration revocation_reason_code (Some code) ∷ []))

abbrev pub revoke_fields : RevokeOf → List (Option Tree)
revoke_fields r = field Tree.text unique_identifier r.id ∷ Some (written_reason r.code) ∷ []

-- ITS ROW

abbrev pub AsksRevoke : Trees → AskedOf → Type 0
AsksRevoke ts (revokes x) = SaysRevoke ts x
AsksRevoke ts _ = ⊥

abbrev pub revoke_row : Row
revoke_row = record {
  SaysAsked = AsksRevoke;
  AskedFault = λ ts k. RevokeFault ts k;
  asked_in = λ ts. map_ok revokes (revoke_in ts);
  SaysDone = SaysChanged;
  DoneFault = λ ts k. IdentifierFault ts k;
  done_in = changed_in;
  may_be_bare = true;
  NeedsPayload = ⊥;
}
