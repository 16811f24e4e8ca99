-- Registers and their answers are read.
use Rattle.std.proofs.Common.{◌≡◌, ◌≤◌, ℕ, Bool, true, false, ◌==◌, ◌&&◌, Option, Some, Result, refl, sym, ap, ◌∙◌, subst, inl, inr, ◌⊎◌, arith, eqb-true, [], ◌∷◌, None}
use Rattle.kmipa_ttlv.specs.Tree.{Trees, Tree, scalar}
use Rattle.kmipa_attrs.specs.Fields.{at, inside, as_structure, as_enumeration, as_bytes, as_text}
use Rattle.kmipa_attrs.specs.ObjectTypes.{type_number, type_of}
use Rattle.kmipa_attrs.specs.Readings.{Reads, NeededFault, needed, both, map_ok, passing}
use Rattle.kmipa_attrs.specs.Sets.{attributes_of}
use Rattle.kmipa_attrs.specs.Tags.{key_format_type, key_material, key_value, object_type_tag, unique_identifier, attributes_tag}
use Rattle.kmipa_attrs.specs.declared.attr_set.AttrSet.{AttrSet}
use Rattle.kmipa_attrs.specs.declared.object_type.ObjectType
use Rattle.kmipa_attrs.specs.declared.side.Side.TheVariants.{Client}
use Rattle.kmipa_attrs.proofs.ReadingLemmas.{reads_both, reads_as, reads_optional, reads_needed, reads_passing}
use Rattle.kmipa_msgs.specs.declared.kind.OutsideKind.{OutsideKind}
use Rattle.kmipa_msgs.specs.declared.kind.OutsideKind.TheVariants.{ObjectType, IdentifierForm, Wrapped, Format, Missing, Disagree}
use Rattle.kmipa_msgs.specs.declared.operation.Operation
use Rattle.kmipa_msgs.specs.Kinds.{kind_number}
use Rattle.kmipa_msgs.specs.Messages.{operation_asked, block_of, RegisterOf, RegisteredOf, AskedOf, PayloadOf, registers, registered}
use Rattle.kmipa_msgs.specs.declared.key_block.KeyBlock.{KeyBlock}
use Rattle.kmipa_msgs.specs.Tables.{Unlisted, listed, unless_unlisted}
use Rattle.kmipa_msgs.specs.KeyBlocks.{BlockFault, block_in}
use Rattle.kmipa_msgs.specs.KeyBlocks.BlockFault.{in_wrapping, in_format, in_format_number, in_value, in_material, in_algorithm, in_length}
use Rattle.kmipa_msgs.specs.Objects.{shape_in, block_inside, object_in}
use Rattle.kmipa_msgs.specs.AttributeFields.{GivenFault, given_in}
use Rattle.kmipa_msgs.specs.Registers.{BroughtOf, SaysBrought, agrees, brought_by, SaysRegister, RegisterFault, brought_rows, brought_at, brought_in, register_at, register_in, SaysRegistered, RegisteredFault, registered_rows, registered_at, registered_in, register_fields, registered_fields, AsksRegister, AnswersRegister, register_row}
use Rattle.kmipa_msgs.specs.Registers.RegisterFault.{in_object_type, in_type_number, in_attributes, in_attribute_type, in_object, in_block, in_brought}
use Rattle.kmipa_msgs.specs.Registers.RegisteredFault.{in_type, in_identifier}
use Rattle.kmipa_msgs.proofs.TableLemmas.{reads_listed, reads_unless_unlisted}
use Rattle.kmipa_msgs.proofs.AttributeFieldLemmas.{reads_given}
use Rattle.kmipa_msgs.proofs.LowKindLemmas.{low, low_needed, low_given}
use Rattle.kmipa_msgs.proofs.BlockLemmas.{reads_block}
use Rattle.kmipa_msgs.proofs.ViewLemmas.{seen, both_seen, right_seen}
use Rattle.kmipa_ttlv.specs.Tree
use Rattle.kmipa_msgs.specs.Replies.{filled}
use Rattle.kmipa_msgs.specs.Written.{written_payload}
use Rattle.kmipa_msgs.specs.WrittenFields.{in_order, field}
use Rattle.kmipa_msgs.specs.Writable.{IsWritableAsked, SaysNothing}
use Rattle.kmipa_msgs.proofs.RowLaws.{IsRow}
use Rattle.kmipa_msgs.proofs.WrittenFieldLemmas.{skipped, optional_written, required_written}
use Rattle.kmipa_msgs.specs.Rows.{asked_fields, payload_fields}
use Rattle.kmipa_msgs.specs.WrittenKeys.{written_object}
use Rattle.kmipa_msgs.proofs.WrittenTypeLemmas.{type_listed}
use Rattle.kmipa_msgs.proofs.WrittenAttributeLemmas.{given_written}
use Rattle.kmipa_msgs.proofs.WrittenKeyLemmas.{object_here, shape_written, block_found}

-- the parts
abbrev PartFault : Trees → OutsideKind → Type 0
PartFault ts k = ((((NeededFault (at as_enumeration object_type_tag ts) Missing Missing k ⊎ ((k ≡ ObjectType) × Unlisted (at as_enumeration object_type_tag ts) type_of)) ⊎ NeededFault (shape_in ts) Missing Missing k) ⊎ ((k ≡ ObjectType) × Unlisted (at as_enumeration object_type_tag (inside attributes_tag ts)) type_of)) ⊎ BlockFault (block_inside ts) k) ⊎ GivenFault Client (at as_structure attributes_tag ts) k

reads_brought : (ts : Trees) → Reads kind_number (SaysBrought ts) (PartFault ts) (brought_in ts)
unfolding brought_in
reads_brought ts =
    reads_as kind_number _ _ (SaysBrought ts) (PartFault ts) brought_at (brought_rows ts)
    (λ p s. record { object_type = s.0.0.0.0; shape = s.0.0.0.1; attributes = s.1; block = s.0.1 })
    (λ y t. (((((y.object_type, y.shape), tt), y.block), y.attributes), ((((t.object_type, t.shape), tt), t.block), t.attributes), refl))
    (λ k f. f)
    (λ k f. f)
    (reads_both kind_number _ _ _ _ _ _
    (reads_both kind_number _ _ _ _ _ _
    (reads_both kind_number _ _ _ _ _ _ (reads_both kind_number _ _ _ _ _ _ (reads_listed (at as_enumeration object_type_tag ts) type_of Missing ObjectType) (reads_needed kind_number Missing Missing (shape_in ts))) (reads_unless_unlisted (at as_enumeration object_type_tag (inside attributes_tag ts)) type_of ObjectType))
    (reads_block (block_inside ts)))
    (reads_given Client (at as_structure attributes_tag ts)))

-- no part is of a kind above Disagree
low_block : (ts : Trees) (k : OutsideKind) → BlockFault ts k → kind_number k ≤ 12
low_block ts k f = elim f [
  | in_wrapping e w ↦ low k Wrapped (omega arith) e
  | in_format w ↦ low_needed (at as_enumeration key_format_type ts) Missing Missing k (omega arith) (omega arith) w
  | in_format_number e w ↦ low k Format (omega arith) e
  | in_value w ↦ low_needed (at as_structure key_value ts) Missing Format k (omega arith) (omega arith) w
  | in_material w ↦ low_needed (at as_bytes key_material (inside key_value ts)) Missing Format k (omega arith) (omega arith) w
  | in_algorithm e w ↦ low k Missing (omega arith) e
  | in_length e w ↦ low k Missing (omega arith) e
]

low_part : (ts : Trees) (k : OutsideKind) → PartFault ts k → kind_number k ≤ 12
low_part ts k f = elim f [
  | inl h ↦ elim h [
    | inl m ↦ elim m [
      | inl n ↦ elim n [
        | inl o ↦ elim o [ inl w ↦ low_needed (at as_enumeration object_type_tag ts) Missing Missing k (omega arith) (omega arith) w | inr w ↦ low k ObjectType (omega arith) w.0 ]
        | inr w ↦ low_needed (shape_in ts) Missing Missing k (omega arith) (omega arith) w
      ]
      | inr w ↦ low k ObjectType (omega arith) w.0
    ]
    | inr w ↦ low_block (block_inside ts) k w
  ]
  | inr w ↦ low_given Client (at as_structure attributes_tag ts) k w
]

-- types with one number are one
type_back : (t : ObjectType.ObjectType) → type_of (type_number t) ≡ Some t
type_back ObjectType.TheVariants.SymmetricKey = refl
type_back ObjectType.TheVariants.SecretData = refl

same_type : (s t : ObjectType.ObjectType) → type_number s ≡ type_number t → s ≡ t
same_type s t e = let h : Some s ≡ Some t = sym (type_back s) ∙ ap type_of e ∙ type_back t in cc

-- parts that agree are those of what they bring
and_left : (x y : Bool) → (x && y) ≡ true → x ≡ true
and_left true y e = refl
and_left false y e = e

same_shape : (b : BroughtOf) → agrees b ≡ true → b ≡ brought_by (register_at b)
same_shape b e =
    let n : (type_number b.object_type == type_number b.shape) ≡ true = and_left _ _ (and_left _ _ (and_left _ _ e)) in
    ap (λ (t : ObjectType.ObjectType). record { object_type = b.object_type; shape = t; attributes = b.attributes; block = b.block }) (sym (same_type b.object_type b.shape (eqb-true _ _ n)))

pub reads_register : (ts : Trees) → Reads kind_number (SaysRegister ts) (RegisterFault ts) (register_in ts)
unfolding register_in
reads_register ts =
    reads_as kind_number (λ b. SaysBrought ts b × (agrees b ≡ true)) (λ k. PartFault ts k ⊎ ((k ≡ Disagree) × ((b : BroughtOf) × SaysBrought ts b × (agrees b ≡ false)))) (SaysRegister ts) (RegisterFault ts) register_at
    (passing agrees Disagree (brought_in ts))
    (λ b s. record { brought = subst (SaysBrought ts) (same_shape b s.1) s.0; agrees = ap agrees (sym (same_shape b s.1)) ∙ s.1 })
    (λ y t. (brought_by y, (t.brought, t.agrees), refl))
    reported back
    (reads_passing kind_number (SaysBrought ts) (PartFault ts) agrees Disagree (brought_in ts) (λ k b w s. low_part ts k w) (reads_brought ts))
  where
    reported : (k : OutsideKind) → PartFault ts k ⊎ ((k ≡ Disagree) × ((b : BroughtOf) × SaysBrought ts b × (agrees b ≡ false))) → RegisterFault ts k
    reported k f = elim f [
      | inl g ↦ elim g [
        | inl h ↦ elim h [
          | inl m ↦ elim m [
            | inl n ↦ elim n [ inl o ↦ elim o [ inl w ↦ in_object_type w | inr w ↦ in_type_number w.0 w.1 ] | inr w ↦ in_object w ]
            | inr w ↦ in_attribute_type w.0 w.1
          ]
          | inr w ↦ in_block w
        ]
        | inr w ↦ in_attributes w
      ]
      | inr g ↦ in_brought g.0 (record { brought = g.1.0; said = g.1.1; differ = g.1.2 })
    ]

    back : (k : OutsideKind) → RegisterFault ts k → PartFault ts k ⊎ ((k ≡ Disagree) × ((b : BroughtOf) × SaysBrought ts b × (agrees b ≡ false)))
    back k f = elim f [
      | in_object_type w ↦ inl (inl (inl (inl (inl (inl w)))))
      | in_type_number e w ↦ inl (inl (inl (inl (inl (inr (e, w))))))
      | in_attributes w ↦ inl (inr w)
      | in_attribute_type e w ↦ inl (inl (inl (inr (e, w))))
      | in_object w ↦ inl (inl (inl (inl (inr w))))
      | in_block w ↦ inl (inl (inr w))
      | in_brought e w ↦ inr (e, (w.brought, w.said, w.differ))
    ]

-- the answer
pub reads_registered : (ts : Trees) → Reads kind_number (SaysRegistered ts) (RegisteredFault ts) (registered_in ts)
unfolding registered_in
reads_registered ts =
    reads_as kind_number _ _ (SaysRegistered ts) (RegisteredFault ts) registered_at (registered_rows ts)
    (λ p s. record { object_type = s.0; id = s.1 })
    (λ y t. ((y.object_type, y.id), (t.object_type, t.id), refl))
    (λ k f. elim f [ inl w ↦ in_type w.0 w.1 | inr w ↦ in_identifier w ])
    (λ k f. elim f [ in_type e w ↦ inl (e, w) | in_identifier w ↦ inr w ])
    (reads_both kind_number _ _ _ _ _ _ (reads_optional kind_number Missing (at as_enumeration object_type_tag ts)) (reads_needed kind_number Missing IdentifierForm (at as_text unique_identifier ts)))

-- the parts as the program has them
abbrev pub Types : Type 0
Types = (ObjectType.ObjectType × ObjectType.ObjectType) × Unit {0}

abbrev pub types_rows : Trees → Result Types OutsideKind
types_rows ts = both kind_number (both kind_number (listed (at as_enumeration object_type_tag ts) type_of Missing ObjectType) (needed (shape_in ts) Missing Missing)) (unless_unlisted (at as_enumeration object_type_tag (inside attributes_tag ts)) type_of ObjectType)

abbrev pub brought_view : (Types × KeyBlock) × AttrSet → BroughtOf
brought_view p = brought_at ((p.0.0, block_of p.0.1), attributes_of p.1)

pub seen_brought : (ts us : Trees) (types : Result Types OutsideKind) (block : Result KeyBlock OutsideKind) (plain : Result (Types × KeyBlock) OutsideKind) (given : Result AttrSet OutsideKind) (rows : Result ((Types × KeyBlock) × AttrSet) OutsideKind)
    → rows ≡ both kind_number plain given → plain ≡ both kind_number types block → types ≡ types_rows ts → map_ok block_of block ≡ block_in us → us ≡ block_inside ts
    → map_ok attributes_of given ≡ given_in Client (at as_structure attributes_tag ts)
    → map_ok brought_view rows ≡ brought_in ts
unfolding brought_in
seen_brought ts us types block plain given rows e p t b u g =
    seen brought_at (λ q. ((q.0.0, block_of q.0.1), attributes_of q.1)) rows (brought_rows ts)
    (both_seen kind_number (λ q. (q.0, block_of q.1)) attributes_of plain given rows (both kind_number (types_rows ts) (block_in (block_inside ts))) (given_in Client (at as_structure attributes_tag ts)) e
    (right_seen kind_number block_of types block plain (types_rows ts) (block_in (block_inside ts)) p t (b ∙ ap block_in u))
    g)

-- AS THEY ARE WRITTEN

register_object : (r : RegisterOf) → object_in (in_order (register_fields r)) ≡ Some (written_object r.object_type r.block)
unfolding object_in
register_object r = object_here r.object_type (Some (written_object r.object_type r.block)) None

pub register_written : (ts : Trees) (r : RegisterOf) → SaysRegister ts r → SaysRegister (in_order (register_fields r)) r
unfolding as_enumeration
register_written ts r h = record {
  brought = record {
    object_type = record {
      number = type_number r.object_type;
      is = required_written as_enumeration object_type_tag (register_fields r) (scalar object_type_tag (Tree.enumeration (type_number r.object_type))) (type_number r.object_type) refl refl;
      listed = type_listed r.object_type;
    };
    shape = shape_written (in_order (register_fields r)) r.object_type r.block (register_object r);
    attributes = given_written (at as_structure attributes_tag ts) (register_fields r) r.attributes refl h.brought.attributes;
    block = block_found (in_order (register_fields r)) r.object_type r.block (register_object r);
  };
  agrees = h.agrees;
}

pub registered_written : (r : RegisteredOf) → SaysRegistered (in_order (registered_fields r)) r
unfolding as_text as_enumeration
registered_written r = record {
  object_type =
      optional_written as_enumeration Tree.enumeration object_type_tag r.object_type (registered_fields r) (field Tree.text unique_identifier (Some r.id) ∷ []) refl refl (λ x. refl) refl;
  id = required_written as_text unique_identifier (registered_fields r) (scalar unique_identifier (Tree.text r.id)) r.id
      (skipped Tree.enumeration object_type_tag unique_identifier r.object_type (field Tree.text unique_identifier (Some r.id) ∷ []) refl) refl;
}

with_reported : (reported : Option ℕ) (r : RegisteredOf)
    → filled (Some (written_payload (registered (record r { object_type = reported })))) ≡ Some (written_payload (registered (record r { object_type = reported })))
with_reported None r = refl
with_reported (Some n) r = refl

pub registered_filled : (r : RegisteredOf) → filled (Some (written_payload (registered r))) ≡ Some (written_payload (registered r))
registered_filled r = with_reported r.object_type r

-- ITS ROW

asked_from : (ts : Trees) (y : AskedOf) → AsksRegister ts y → (x : RegisterOf) × SaysRegister ts x × (y ≡ registers x)
asked_from ts (registers x) s = (x, s, refl)
asked_from ts _ s = absurd s

done_from : (ts : Trees) (y : PayloadOf) → AnswersRegister ts y → (x : RegisteredOf) × SaysRegistered ts x × (y ≡ registered x)
done_from ts (registered x) s = (x, s, refl)
done_from ts _ s = absurd s

asked_written : (ts : Trees) (a : AskedOf) → IsWritableAsked a → AsksRegister ts a → AsksRegister (in_order (asked_fields a)) a
asked_written ts (registers x) w s = register_written ts x s
asked_written ts _ w s = absurd s

done_written : (ts : Trees) (p : PayloadOf) → AnswersRegister ts p → AnswersRegister (in_order (payload_fields p)) p
done_written ts (registered x) s = registered_written x
done_written ts _ s = absurd s

done_filled : (ts : Trees) (p : PayloadOf) → (SaysNothing p → ⊥) → AnswersRegister ts p → filled (Some (written_payload p)) ≡ Some (written_payload p)
done_filled ts (registered x) bare s = registered_filled x
done_filled ts _ bare s = absurd s

asked_own : (ts : Trees) (a : AskedOf) → AsksRegister ts a → operation_asked a ≡ Operation.TheVariants.Register
asked_own ts (registers x) s = refl
asked_own ts _ s = absurd s

pub is_register_row : IsRow Operation.TheVariants.Register register_row
is_register_row = record {
  own = asked_own;
  reads_asked = λ ts. reads_as kind_number _ _ (AsksRegister ts) (register_row.AskedFault ts) registers _ (λ x s. s) (asked_from ts) (λ k f. f) (λ k f. f) (reads_register ts);
  reads_done = λ ts. reads_as kind_number _ _ (AnswersRegister ts) (register_row.DoneFault ts) registered _ (λ x s. s) (done_from ts) (λ k f. f) (λ k f. f) (reads_registered ts);
  asked_written = asked_written;
  done_written = done_written;
  done_filled = done_filled;
}
