-- Gets and their answers are read.
use Rattle.std.proofs.Common.{◌≡◌, ℕ, List, Option, Result, refl, ap, ◌∙◌, inl, inr, [], ◌∷◌, Some, None}
use Rattle.kmipa_ttlv.specs.Tree.{Trees, Tree}
use Rattle.kmipa_attrs.specs.Fields.{first, at, map_field, as_enumeration, as_text}
use Rattle.kmipa_attrs.specs.ObjectTypes.{type_of, type_number}
use Rattle.kmipa_attrs.specs.Readings.{Reads, needed, optional, both, map_ok}
use Rattle.kmipa_attrs.specs.Tags.{key_wrapping_specification, object_type_tag, unique_identifier}
use Rattle.kmipa_attrs.specs.declared.fields.Field.{Field}
use Rattle.kmipa_attrs.specs.declared.object_type.ObjectType
use Rattle.kmipa_attrs.proofs.ReadingLemmas.{reads_both, reads_as, reads_optional, reads_needed}
use Rattle.kmipa_msgs.specs.declared.kind.OutsideKind.{OutsideKind}
use Rattle.kmipa_msgs.specs.declared.kind.OutsideKind.TheVariants.{ObjectType, IdentifierForm, Wrapped, Missing}
use Rattle.kmipa_msgs.specs.declared.operation.Operation
use Rattle.kmipa_msgs.specs.Kinds.{kind_number}
use Rattle.kmipa_msgs.specs.Messages.{operation_asked, lent, maybe_lent, block_of, GotOf, AskedOf, PayloadOf, BlockOf, gets, got}
use Rattle.kmipa_msgs.specs.Tables.{maybe_listed}
use Rattle.kmipa_msgs.specs.KeyBlocks.{block_in}
use Rattle.kmipa_msgs.specs.declared.key_block.KeyBlock.{KeyBlock}
use Rattle.kmipa_msgs.specs.Objects.{shape_in, block_inside, object_in}
use Rattle.kmipa_msgs.specs.Gets.{SaysGet, GetFault, get_rows, get_in, SaysGot, GotFault, got_rows, got_at, got_in, got_fields, AsksGet, AnswersGet, get_row}
use Rattle.kmipa_msgs.specs.Gets.GetFault.{in_identifier, in_specification}
use Rattle.kmipa_msgs.specs.Gets.GotFault.{in_type, in_type_number, in_shown_identifier, in_object, in_block}
use Rattle.kmipa_msgs.proofs.TableLemmas.{reads_unless, reads_maybe_listed}
use Rattle.kmipa_msgs.proofs.BlockLemmas.{reads_block}
use Rattle.kmipa_msgs.proofs.ViewLemmas.{seen, both_seen, right_seen, optional_seen}
use denote.Bor.{Bor}
use Rattle.kmipa_ttlv.specs.Tree
use Rattle.kmipa_msgs.specs.Replies.{filled}
use Rattle.kmipa_msgs.specs.Written.{written_payload}
use Rattle.kmipa_msgs.specs.WrittenFields.{in_order, field}
use Rattle.kmipa_msgs.specs.Writable.{IsWritableAsked, SaysNothing}
use Rattle.kmipa_msgs.proofs.RowLaws.{IsRow}
use Rattle.kmipa_msgs.proofs.WrittenFieldLemmas.{skipped, optional_written, find}
use Rattle.kmipa_msgs.specs.Rows.{asked_fields, payload_fields}
use Rattle.std.specs.Option.{option_map}
use Rattle.kmipa_attrs.specs.declared.object_type.ObjectType.TheVariants.{SymmetricKey, SecretData}
use Rattle.kmipa_msgs.specs.WrittenKeys.{written_object}
use Rattle.kmipa_msgs.proofs.IdentifierLemmas.{identifier_written}
use Rattle.kmipa_msgs.proofs.WrittenTypeLemmas.{maybe_type_listed}
use Rattle.kmipa_msgs.proofs.WrittenKeyLemmas.{object_here, shape_written, block_found}

pub reads_get : (ts : Trees) → Reads kind_number (SaysGet ts) (GetFault ts) (get_in ts)
unfolding get_in
reads_get ts =
    reads_as kind_number _ _ (SaysGet ts) (GetFault ts) (λ p. p.1) (get_rows ts)
    (λ p s. s.1)
    (λ y t. ((tt, y), (tt, t), refl))
    (λ k f. elim f [ inl w ↦ in_specification w.0 w.1 | inr w ↦ in_identifier w.0 w.1 ])
    (λ k f. elim f [ in_specification e w ↦ inl (e, w) | in_identifier e w ↦ inr (e, w) ])
    (reads_both kind_number _ _ _ _ _ _ (reads_unless (first key_wrapping_specification ts) Wrapped) (reads_optional kind_number IdentifierForm (at as_text unique_identifier ts)))

pub reads_got : (ts : Trees) → Reads kind_number (SaysGot ts) (GotFault ts) (got_in ts)
unfolding got_in
reads_got ts =
    reads_as kind_number _ _ (SaysGot ts) (GotFault ts) got_at (got_rows ts)
    (λ p s. record { object_type = s.0.0.0; id = s.0.1; shape = s.0.0.1; block = s.1 })
    (λ y t. ((((y.object_type, y.shape), y.id), y.block), (((t.object_type, t.shape), t.id), t.block), refl))
    (λ k f. elim f [
      | inl g ↦ elim g [ inl h ↦ elim h [ inl m ↦ elim m [ inl w ↦ in_type w.0 w.1 | inr w ↦ in_type_number w.0 w.1 ] | inr w ↦ in_object w ] | inr w ↦ in_shown_identifier w.0 w.1 ]
      | inr w ↦ in_block w
    ])
    (λ k f. elim f [
      | in_type e w ↦ inl (inl (inl (inl (e, w))))
      | in_type_number e w ↦ inl (inl (inl (inr (e, w))))
      | in_shown_identifier e w ↦ inl (inr (e, w))
      | in_object w ↦ inl (inl (inr w))
      | in_block w ↦ inr w
    ])
    (reads_both kind_number _ _ _ _ _ _
    (reads_both kind_number _ _ _ _ _ _ (reads_both kind_number _ _ _ _ _ _ (reads_maybe_listed (at as_enumeration object_type_tag ts) type_of Missing ObjectType) (reads_needed kind_number Missing Missing (shape_in ts))) (reads_optional kind_number IdentifierForm (at as_text unique_identifier ts)))
    (reads_block (block_inside ts)))

-- the rows of its answer
abbrev pub Types : Type 0
Types = Option ObjectType.ObjectType × ObjectType.ObjectType

abbrev pub types_rows : Trees → Result Types OutsideKind
types_rows ts = both kind_number (maybe_listed (at as_enumeration object_type_tag ts) type_of Missing ObjectType) (needed (shape_in ts) Missing Missing)

abbrev pub got_view : (Types × Option (Bor (List ℕ))) × KeyBlock → GotOf
got_view p = got_at ((p.0.0, maybe_lent p.0.1), block_of p.1)

pub seen_got : (ts us : Trees) (types : Result Types OutsideKind) (field : Field (Bor (List ℕ))) (id : Result (Option (Bor (List ℕ))) OutsideKind) (plain : Result (Types × Option (Bor (List ℕ))) OutsideKind) (block : Result KeyBlock OutsideKind)
    (rows : Result ((Types × Option (Bor (List ℕ))) × KeyBlock) OutsideKind)
    → rows ≡ both kind_number plain block → plain ≡ both kind_number types id → types ≡ types_rows ts → map_field lent field ≡ at as_text unique_identifier ts → id ≡ optional field IdentifierForm
    → map_ok block_of block ≡ block_in us → us ≡ block_inside ts
    → map_ok got_view rows ≡ got_in ts
unfolding got_in
seen_got ts us types field id plain block rows e p t f i b u =
    seen got_at (λ q. ((q.0.0, maybe_lent q.0.1), block_of q.1)) rows (got_rows ts)
    (both_seen kind_number (λ q. (q.0, maybe_lent q.1)) block_of plain block rows (both kind_number (types_rows ts) (optional (at as_text unique_identifier ts) IdentifierForm)) (block_in (block_inside ts)) e
    (right_seen kind_number maybe_lent types id plain (types_rows ts) (optional (at as_text unique_identifier ts) IdentifierForm) p t (optional_seen lent field (at as_text unique_identifier ts) IdentifierForm id i f))
    (b ∙ ap block_in u))

-- AS IT IS WRITTEN

got_object : (reported : Option ℕ) (id : Option (List ℕ)) (s : ObjectType.ObjectType) (b : BlockOf)
    → object_in (in_order (field Tree.enumeration object_type_tag reported ∷ field Tree.text unique_identifier id ∷ Some (written_object s b) ∷ [])) ≡ Some (written_object s b)
unfolding object_in
got_object None None s b = object_here s (Some (written_object s b)) None
got_object None (Some x) s b = object_here s (Some (written_object s b)) None
got_object (Some n) None s b = object_here s (Some (written_object s b)) None
got_object (Some n) (Some x) s b = object_here s (Some (written_object s b)) None

-- the tag of the object is neither of an identifier nor of a type
no_other : (s : ObjectType.ObjectType) (b : BlockOf) → find unique_identifier (Some (written_object s b) ∷ []) ≡ None
no_other SymmetricKey b = refl
no_other SecretData b = refl

no_type : (s : ObjectType.ObjectType) (b : BlockOf) → find object_type_tag (Some (written_object s b) ∷ []) ≡ None
no_type SymmetricKey b = refl
no_type SecretData b = refl

pub got_written : (g : GotOf) → SaysGot (in_order (got_fields g)) g
unfolding as_text as_enumeration
got_written g =
    let reported = option_map type_number g.object_type in
    let object = Some (written_object g.shape g.block) ∷ [] in
    let e = got_object reported g.id g.shape g.block in
    record {
      object_type = maybe_type_listed (at as_enumeration object_type_tag (in_order (got_fields g))) g.object_type
          (optional_written as_enumeration Tree.enumeration object_type_tag reported (got_fields g) (field Tree.text unique_identifier g.id ∷ object)
          refl (skipped Tree.text unique_identifier object_type_tag g.id object refl ∙ no_type g.shape g.block) (λ x. refl) refl);
      id =
          optional_written as_text Tree.text unique_identifier g.id (got_fields g) object
          (skipped Tree.enumeration object_type_tag unique_identifier reported (field Tree.text unique_identifier g.id ∷ object) refl) (no_other g.shape g.block) (λ x. refl) refl;
      shape = shape_written (in_order (got_fields g)) g.shape g.block e;
      block = block_found (in_order (got_fields g)) g.shape g.block e;
    }

got_filled : (reported : Option ObjectType.ObjectType) (id : Option (List ℕ)) (g : GotOf)
    → filled (Some (written_payload (got (record g { object_type = reported; id = id })))) ≡ Some (written_payload (got (record g { object_type = reported; id = id })))
got_filled None None g = refl
got_filled None (Some x) g = refl
got_filled (Some m) None g = refl
got_filled (Some m) (Some x) g = refl

-- ITS ROW

asked_from : (ts : Trees) (y : AskedOf) → AsksGet ts y → (x : Option (List ℕ)) × SaysGet ts x × (y ≡ gets x)
asked_from ts (gets x) s = (x, s, refl)
asked_from ts _ s = absurd s

done_from : (ts : Trees) (y : PayloadOf) → AnswersGet ts y → (x : GotOf) × SaysGot ts x × (y ≡ got x)
done_from ts (got x) s = (x, s, refl)
done_from ts _ s = absurd s

asked_written : (ts : Trees) (a : AskedOf) → IsWritableAsked a → AsksGet ts a → AsksGet (in_order (asked_fields a)) a
asked_written ts (gets x) w s = identifier_written x
asked_written ts _ w s = absurd s

done_written : (ts : Trees) (p : PayloadOf) → AnswersGet ts p → AnswersGet (in_order (payload_fields p)) p
done_written ts (got x) s = got_written x
done_written ts _ s = absurd s

done_filled : (ts : Trees) (p : PayloadOf) → (SaysNothing p → ⊥) → AnswersGet ts p → filled (Some (written_payload p)) ≡ Some (written_payload p)
done_filled ts (got x) bare s = got_filled x.object_type x.id x
done_filled ts _ bare s = absurd s

asked_own : (ts : Trees) (a : AskedOf) → AsksGet ts a → operation_asked a ≡ Operation.TheVariants.Get
asked_own ts (gets x) s = refl
asked_own ts _ s = absurd s

pub is_get_row : IsRow Operation.TheVariants.Get get_row
is_get_row = record {
  own = asked_own;
  reads_asked = λ ts. reads_as kind_number _ _ (AsksGet ts) (get_row.AskedFault ts) gets _ (λ x s. s) (asked_from ts) (λ k f. f) (λ k f. f) (reads_get ts);
  reads_done = λ ts. reads_as kind_number _ _ (AnswersGet ts) (get_row.DoneFault ts) got _ (λ x s. s) (done_from ts) (λ k f. f) (λ k f. f) (reads_got ts);
  asked_written = asked_written;
  done_written = done_written;
  done_filled = done_filled;
}
