-- Creates are read.
use Rattle.std.proofs.Common.{◌≡◌, ◌≤◌, ℕ, Bool, true, false, ◌==◌, if◌then◌else◌, Some, None, Result, refl, ap, ◌∙◌, subst, inl, inr, ◌⊎◌, arith, sym}
use Rattle.kmipa_ttlv.specs.Tree.{Trees, Tree, scalar}
use Rattle.kmipa_attrs.specs.Fields.{first, at, inside, as_structure, as_enumeration, as_integer}
use Rattle.kmipa_attrs.specs.ObjectTypes.{type_of, type_number}
use Rattle.kmipa_attrs.specs.Readings.{Reads, NeededFault, both, map_ok, passing}
use Rattle.kmipa_attrs.specs.Sets.{Attributes, attributes_of}
use Rattle.kmipa_attrs.specs.Tags.{cryptographic_algorithm, cryptographic_length, cryptographic_usage_mask, object_type_tag, attributes_tag}
use Rattle.kmipa_attrs.specs.declared.attr_set.AttrSet.{AttrSet}
use Rattle.kmipa_attrs.specs.declared.object_type.ObjectType
use Rattle.kmipa_attrs.specs.declared.object_type.ObjectType.TheVariants.{SymmetricKey}
use Rattle.kmipa_attrs.specs.declared.side.Side.TheVariants.{Client}
use Rattle.kmipa_attrs.proofs.ReadingLemmas.{reads_both, reads_as, reads_passing, map_ok-same}
use Rattle.kmipa_msgs.specs.declared.kind.OutsideKind.{OutsideKind}
use Rattle.kmipa_msgs.specs.declared.kind.OutsideKind.TheVariants.{ObjectType, Missing, Disagree}
use Rattle.kmipa_msgs.specs.declared.operation.Operation
use Rattle.kmipa_msgs.specs.Kinds.{kind_number}
use Rattle.kmipa_msgs.specs.Tables.{Listed, Unlisted, IsThere}
use Rattle.kmipa_msgs.specs.AttributeFields.{GivenFault, given_in, SaysGiven}
use Rattle.kmipa_msgs.specs.Creates.{created_of, SaysNewKey, is_of_key, SaysCreate, CreateFault, described_rows, types_rows, new_key_rows, new_key_in, create_in, create_fields, AsksCreate, AnswersCreate, create_row}
use Rattle.kmipa_msgs.specs.Creates.CreateFault.{in_object_type, in_type_number, in_attributes, in_attribute_type, in_algorithm, in_length, in_mask, in_agreement}
use Rattle.kmipa_msgs.proofs.TableLemmas.{reads_listed, reads_unless_absent, reads_unless_unlisted}
use Rattle.kmipa_msgs.proofs.AttributeFieldLemmas.{reads_given}
use Rattle.kmipa_msgs.proofs.LowKindLemmas.{low, low_needed, low_given}
use Rattle.kmipa_msgs.proofs.ViewLemmas.{seen, right_seen}
use Rattle.kmipa_ttlv.specs.Tree
use Rattle.kmipa_msgs.specs.Messages.{operation_asked, AskedOf, PayloadOf, creates, created, RegisteredOf}
use Rattle.kmipa_msgs.specs.Replies.{filled}
use Rattle.kmipa_msgs.specs.Written.{written_payload}
use Rattle.kmipa_msgs.specs.WrittenFields.{in_order}
use Rattle.kmipa_msgs.specs.Writable.{IsWritableAsked, SaysNothing}
use Rattle.kmipa_msgs.proofs.RowLaws.{IsRow}
use Rattle.kmipa_msgs.proofs.WrittenFieldLemmas.{required_written, inside_written}
use Rattle.kmipa_msgs.specs.Rows.{asked_fields, payload_fields}
use Rattle.kmipa_attrs.specs.Attributes.{SaysAttributes}
use Rattle.kmipa_attrs.specs.Writing.{written_children}
use Rattle.kmipa_attrs.specs.declared.fields.Field.{Field}
use Rattle.kmipa_attrs.specs.declared.fields.Field.TheVariants.{There}
use Rattle.kmipa_msgs.specs.Registers.{SaysRegistered}
use Rattle.kmipa_msgs.proofs.RegisterLemmas.{reads_registered, registered_written, registered_filled}
use Rattle.kmipa_msgs.proofs.WrittenAttributeLemmas.{given_written, attributes_said, described_again}

-- no other type is created
one_created : (n : ℕ) (t : ObjectType.ObjectType) → created_of n ≡ Some t → t ≡ SymmetricKey
one_created n t e = by (n == 2) e
  where
    by : (b : Bool) → (if b then Some SymmetricKey else None) ≡ Some t → t ≡ SymmetricKey
    by true h = cc
    by false h = cc

-- the parts
abbrev PartFault : Trees → OutsideKind → Type 0
PartFault ts k =
    (((NeededFault (at as_enumeration object_type_tag ts) Missing Missing k ⊎ ((k ≡ ObjectType) × Unlisted (at as_enumeration object_type_tag ts) created_of)) ⊎ ((k ≡ ObjectType) × Unlisted (at as_enumeration object_type_tag (inside attributes_tag ts)) type_of))
    ⊎ ((((k ≡ Missing) × (first cryptographic_algorithm (inside attributes_tag ts) ≡ None)) ⊎ ((k ≡ Missing) × (first cryptographic_length (inside attributes_tag ts) ≡ None))) ⊎ ((k ≡ Missing) × (first cryptographic_usage_mask (inside attributes_tag ts) ≡ None))))
    ⊎ GivenFault Client (at as_structure attributes_tag ts) k

reads_new_key : (ts : Trees) → Reads kind_number (SaysNewKey ts) (PartFault ts) (new_key_in ts)
unfolding new_key_in
reads_new_key ts =
    let us = inside attributes_tag ts in
    reads_as kind_number _ _ (SaysNewKey ts) (PartFault ts) (λ p. p.1) (new_key_rows ts)
    (λ p s. record {
      object_type = let P : ObjectType.ObjectType → Type 0 = Listed (at as_enumeration object_type_tag ts) created_of in subst P (one_created s.0.0.0.number p.0.0.0 s.0.0.0.listed) s.0.0.0;
      attributes = s.1;
      algorithm = s.0.1.0.0;
      length = s.0.1.0.1;
      mask = s.0.1.1;
    })
    (λ y t. ((((SymmetricKey, tt), ((tt, tt), tt)), y), (((t.object_type, tt), ((t.algorithm, t.length), t.mask)), t.attributes), refl))
    (λ k f. f)
    (λ k f. f)
    (reads_both kind_number _ _ _ _ _ _
    (reads_both kind_number _ _ _ _ _ _
    (reads_both kind_number _ _ _ _ _ _ (reads_listed (at as_enumeration object_type_tag ts) created_of Missing ObjectType) (reads_unless_unlisted (at as_enumeration object_type_tag us) type_of ObjectType))
    (reads_both kind_number _ _ _ _ _ _ (reads_both kind_number _ _ _ _ _ _ (reads_unless_absent (first cryptographic_algorithm us) Missing) (reads_unless_absent (first cryptographic_length us) Missing)) (reads_unless_absent (first cryptographic_usage_mask us) Missing)))
    (reads_given Client (at as_structure attributes_tag ts)))

low_part : (ts : Trees) (k : OutsideKind) → PartFault ts k → kind_number k ≤ 12
low_part ts k f = elim f [
  | inl g ↦ elim g [
    | inl h ↦ elim h [
      | inl m ↦ elim m [ inl w ↦ low_needed (at as_enumeration object_type_tag ts) Missing Missing k (omega arith) (omega arith) w | inr w ↦ low k ObjectType (omega arith) w.0 ]
      | inr w ↦ low k ObjectType (omega arith) w.0
    ]
    | inr h ↦ elim h [
      | inl m ↦ elim m [ inl w ↦ low k Missing (omega arith) w.0 | inr w ↦ low k Missing (omega arith) w.0 ]
      | inr w ↦ low k Missing (omega arith) w.0
    ]
  ]
  | inr w ↦ low_given Client (at as_structure attributes_tag ts) k w
]

abbrev Fault : Trees → OutsideKind → Type 0
Fault ts k = PartFault ts k ⊎ ((k ≡ Disagree) × ((a : Attributes) × SaysNewKey ts a × (is_of_key a ≡ false)))

reported : (ts : Trees) (k : OutsideKind) → Fault ts k → CreateFault ts k
reported ts k f = elim f [
  | inl e ↦ elim e [
    | inl g ↦ elim g [
      | inl h ↦ elim h [ inl m ↦ elim m [ inl w ↦ in_object_type w | inr w ↦ in_type_number w.0 w.1 ] | inr w ↦ in_attribute_type w.0 w.1 ]
      | inr h ↦ elim h [ inl m ↦ elim m [ inl w ↦ in_algorithm w.0 w.1 | inr w ↦ in_length w.0 w.1 ] | inr w ↦ in_mask w.0 w.1 ]
    ]
    | inr w ↦ in_attributes w
  ]
  | inr w ↦ in_agreement w.0 (record { attributes = w.1.0; said = w.1.1; differ = w.1.2 })
]

back : (ts : Trees) (k : OutsideKind) → CreateFault ts k → Fault ts k
back ts k f = elim f [
  | in_object_type w ↦ inl (inl (inl (inl (inl w))))
  | in_type_number e w ↦ inl (inl (inl (inl (inr (e, w)))))
  | in_attributes w ↦ inl (inr w)
  | in_attribute_type e w ↦ inl (inl (inl (inr (e, w))))
  | in_algorithm e w ↦ inl (inl (inr (inl (inl (e, w)))))
  | in_length e w ↦ inl (inl (inr (inl (inr (e, w)))))
  | in_mask e w ↦ inl (inl (inr (inr (e, w))))
  | in_agreement e w ↦ inr (e, (w.attributes, w.said, w.differ))
]

pub reads_create : (ts : Trees) → Reads kind_number (SaysCreate ts) (CreateFault ts) (create_in ts)
unfolding create_in
reads_create ts =
    let r = passing is_of_key Disagree (new_key_in ts) in
    subst (λ (q : Result Attributes OutsideKind). Reads kind_number (SaysCreate ts) (CreateFault ts) q) (map_ok-same r)
    (reads_as kind_number (λ a. SaysNewKey ts a × (is_of_key a ≡ true)) (Fault ts) (SaysCreate ts) (CreateFault ts) (λ a. a) r
    (λ a s. record { key = s.0; agrees = s.1 })
    (λ y t. (y, (t.key, t.agrees), refl))
    (reported ts) (back ts)
    (reads_passing kind_number (SaysNewKey ts) (PartFault ts) is_of_key Disagree (new_key_in ts) (λ k a w s. low_part ts k w) (reads_new_key ts)))

-- the parts as the program has them
abbrev pub Plain : Type 0
Plain = (ObjectType.ObjectType × Unit {0}) × ((Unit {0} × Unit {0}) × Unit {0})

abbrev pub new_key_view : Plain × AttrSet → Attributes
new_key_view p = attributes_of p.1

pub seen_new_key : (ts us : Trees) (plain : Result Plain OutsideKind) (given : Result AttrSet OutsideKind) (rows : Result (Plain × AttrSet) OutsideKind)
    → rows ≡ both kind_number plain given → plain ≡ both kind_number (types_rows ts) (described_rows us) → us ≡ inside attributes_tag ts
    → map_ok attributes_of given ≡ given_in Client (at as_structure attributes_tag ts)
    → map_ok new_key_view rows ≡ new_key_in ts
unfolding new_key_in
seen_new_key ts us plain given rows e p u g =
    seen (λ q. q.1) (λ q. (q.0, attributes_of q.1)) rows (new_key_rows ts)
    (right_seen kind_number attributes_of plain given rows (both kind_number (types_rows ts) (described_rows (inside attributes_tag ts))) (given_in Client (at as_structure attributes_tag ts)) e
    (p ∙ ap (λ vs. both kind_number (types_rows ts) (described_rows vs)) u) g)

-- AS IT IS WRITTEN

pub create_written : (ts : Trees) (a : Attributes) → SaysCreate ts a → SaysCreate (in_order (create_fields a)) a
unfolding as_enumeration
create_written ts a h =
    let f = at as_structure attributes_tag ts in
    let ws = written_children a in
    let said = attributes_said f a h.key.attributes in
    let there : (us : Trees) → f ≡ There us → SaysAttributes us a = λ us e. subst (λ (g : Field Trees). SaysGiven g a) e h.key.attributes in
    let here = sym (inside_written attributes_tag attributes_tag (create_fields a) ws refl) in
    record {
      key = record {
        object_type = record {
          number = type_number SymmetricKey;
          is = required_written as_enumeration object_type_tag (create_fields a) (scalar object_type_tag (Tree.enumeration (type_number SymmetricKey))) (type_number SymmetricKey) refl refl;
          listed = refl;
        };
        attributes = given_written f (create_fields a) a refl h.key.attributes;
        algorithm = subst (λ (us : Trees). IsThere (first cryptographic_algorithm us)) here (described_again as_enumeration cryptographic_algorithm f ws a.algorithm (λ us e. (there us e).algorithm) h.key.algorithm said.algorithm);
        length = subst (λ (us : Trees). IsThere (first cryptographic_length us)) here (described_again as_integer cryptographic_length f ws a.length (λ us e. (there us e).length) h.key.length said.length);
        mask = subst (λ (us : Trees). IsThere (first cryptographic_usage_mask us)) here (described_again as_integer cryptographic_usage_mask f ws a.mask (λ us e. (there us e).mask) h.key.mask said.mask);
      };
      agrees = h.agrees;
    }

-- ITS ROW

asked_from : (ts : Trees) (y : AskedOf) → AsksCreate ts y → (x : Attributes) × SaysCreate ts x × (y ≡ creates x)
asked_from ts (creates x) s = (x, s, refl)
asked_from ts _ s = absurd s

done_from : (ts : Trees) (y : PayloadOf) → AnswersCreate ts y → (x : RegisteredOf) × SaysRegistered ts x × (y ≡ created x)
done_from ts (created x) s = (x, s, refl)
done_from ts _ s = absurd s

asked_written : (ts : Trees) (a : AskedOf) → IsWritableAsked a → AsksCreate ts a → AsksCreate (in_order (asked_fields a)) a
asked_written ts (creates x) w s = create_written ts x s
asked_written ts _ w s = absurd s

done_written : (ts : Trees) (p : PayloadOf) → AnswersCreate ts p → AnswersCreate (in_order (payload_fields p)) p
done_written ts (created x) s = registered_written x
done_written ts _ s = absurd s

done_filled : (ts : Trees) (p : PayloadOf) → (SaysNothing p → ⊥) → AnswersCreate ts p → filled (Some (written_payload p)) ≡ Some (written_payload p)
done_filled ts (created x) bare s = registered_filled x
done_filled ts _ bare s = absurd s

asked_own : (ts : Trees) (a : AskedOf) → AsksCreate ts a → operation_asked a ≡ Operation.TheVariants.Create
asked_own ts (creates x) s = refl
asked_own ts _ s = absurd s

pub is_create_row : IsRow Operation.TheVariants.Create create_row
is_create_row = record {
  own = asked_own;
  reads_asked = λ ts. reads_as kind_number _ _ (AsksCreate ts) (create_row.AskedFault ts) creates _ (λ x s. s) (asked_from ts) (λ k f. f) (λ k f. f) (reads_create ts);
  reads_done = λ ts. reads_as kind_number _ _ (AnswersCreate ts) (create_row.DoneFault ts) created _ (λ x s. s) (done_from ts) (λ k f. f) (λ k f. f) (reads_registered ts);
  asked_written = asked_written;
  done_written = done_written;
  done_filled = done_filled;
}
