-- Some item says a payload exactly where it is sayable.
use Rattle.std.proofs.Common.{◌≡◌, ◌<◌, ◌^◌, ◌==◌, not, ℕ, ℤ, Bool, true, false, cond, List, [], ◌∷◌, map, All, IfSome, IsUtf8, Option, Some, None, option_map, refl, sym, subst, arith}
use Rattle.std.specs.Prelude.{FitsSigned}
use Rattle.std.specs.Int.{w32, w64}
use Rattle.std.proofs.lemmas.List.Elements.{All-nil, All-cons, All-head, All-tail, All-filter}
use Rattle.kmipa_ttlv.specs.Tree.{Tree, Trees, Scalar, structure, scalar, none, more, push, forest}
use Rattle.kmipa_ttlv.specs.Tree
use Rattle.kmipa_ttlv.specs.Written.{ScalarFits}
use Rattle.kmipa_attrs.specs.Attributes.{each, Single, SaysAttributes}
use Rattle.kmipa_attrs.specs.Fields.{tag_of, first, every, as_structure, as_integer, as_enumeration, as_text, as_bytes, as_date, field_of, typed, at, in_field, inside}
use Rattle.kmipa_attrs.specs.Names.{name_from, as_name, same_name, without, distinct}
use Rattle.kmipa_attrs.specs.Readings.{Optional}
use Rattle.kmipa_attrs.specs.Sets.{NameOf, Attributes, no_attributes}
use Rattle.kmipa_attrs.specs.Tags.{activation_date, compromise_date, cryptographic_algorithm, cryptographic_length, cryptographic_usage_mask, deactivation_date, destroy_date, initial_date, key_block, key_format_type, key_material, key_value, name_tag, name_type, name_value, object_type_tag, state_tag, unique_identifier, attributes_tag}
use Rattle.kmipa_attrs.specs.Writing.{name_tree, with_scalar, with_scalars, enumerated, counted, dated, single_rows, written_children}
use Rattle.kmipa_attrs.specs.declared.fields.Field.{Field}
use Rattle.kmipa_attrs.specs.declared.fields.Field.TheVariants.{Absent, Wrong, There}
use Rattle.kmipa_attrs.specs.declared.object_type.ObjectType.{ObjectType}
use Rattle.kmipa_attrs.specs.declared.object_type.ObjectType.TheVariants.{SymmetricKey, SecretData}
use Rattle.kmipa_attrs.specs.ObjectTypes.{type_number}
use Rattle.kmipa_attrs.proofs.WriteLemmas.{written_said, said-HasNoRepeats, once-same}
use Rattle.kmipa_msgs.specs.declared.key_block.KeyFormat.{KeyFormat}
use Rattle.kmipa_msgs.specs.declared.key_block.KeyFormat.TheVariants as format
use Rattle.kmipa_msgs.specs.declared.operation.Operation.{Operation}
use Rattle.kmipa_msgs.specs.declared.operation.Operation.TheVariants.{Create, Register, Locate, Get, GetAttributes, Activate, Revoke, Destroy}
use Rattle.kmipa_msgs.specs.AttributeFields.{SaysGiven}
use Rattle.kmipa_msgs.specs.GetsAttributes.{SaysGotAttributes, got_attributes_fields}
use Rattle.kmipa_msgs.specs.KeyBlocks.{SaysBlock}
use Rattle.kmipa_msgs.specs.Locates.{located_fields}
use Rattle.kmipa_msgs.specs.Messages.{BlockOf, RegisteredOf, GotOf, GotAttributesOf, operation_asked, PayloadOf, created, registered, located, got, got_attributes, changed}
use Rattle.kmipa_msgs.specs.Numbers.{format_number}
use Rattle.kmipa_msgs.specs.Objects.{is_object, object_in, block_inside}
use Rattle.kmipa_msgs.specs.Payloads.{SaysDone, SaysPayloadOf}
use Rattle.kmipa_msgs.specs.Registers.{SaysRegistered}
use Rattle.kmipa_msgs.specs.Rows.{payload_fields}
use Rattle.kmipa_msgs.specs.Sayable.{HasSmallBytes, IsItem, AreItems, IsSayableId, IsSayableNumber, IsSayableLength, IsSayableDate, IsSayableBlock, IsSayableName, AreSayable, SaysNew, SaysListed, SaysKey, SaysOwn, IsSayable, SayableIsSaid}
use Rattle.kmipa_msgs.specs.Written.{written_payload}
use Rattle.kmipa_msgs.specs.WrittenFields.{with_fields, in_order, field, written_attributes}
use Rattle.kmipa_msgs.specs.WrittenKeys.{written_value, block_fields, written_block, object_tag, written_object}
use Rattle.kmipa_msgs.proofs.GetLemmas.{got_written}
use Rattle.kmipa_msgs.proofs.IdentifierLemmas.{identifier_written}
use Rattle.kmipa_msgs.proofs.LocateLemmas.{located_written}
use Rattle.kmipa_msgs.proofs.RegisterLemmas.{registered_written}
use Rattle.kmipa_msgs.proofs.WrittenAttributeLemmas.{given_written}
use Rattle.kmipa_msgs.proofs.WrittenFieldLemmas.{skipped, optional_written}

-- WHAT AN ITEM SAYS FITS

some_same : {A : Type 0} (P : A → Type 0) (x y : A) → Some x ≡ Some y → P x → P y
some_same P x y e h = let same : x ≡ y = cc in subst P same h

first_item : (n : ℕ) (ts : Trees) (t : Tree) → AreItems ts → first n ts ≡ Some t → IsItem t
unfolding first
first_item n none t a e = let bad : ⊥ = cc in absurd bad
first_item n (more u ts) t a e = by (tag_of u == n) (first_item n ts t a.1) e
  where
    by : (b : Bool) → (first n ts ≡ Some t → IsItem t) → cond b (Some u) (first n ts) ≡ Some t → IsItem t
    by true rest h = some_same IsItem u t h a.0
    by false rest h = rest h

object_item : (ts : Trees) (t : Tree) → AreItems ts → object_in ts ≡ Some t → IsItem t
unfolding object_in
object_item none t a e = let bad : ⊥ = cc in absurd bad
object_item (more u ts) t a e = by (is_object (tag_of u)) (object_item ts t a.1) e
  where
    by : (b : Bool) → (object_in ts ≡ Some t → IsItem t) → cond b (Some u) (object_in ts) ≡ Some t → IsItem t
    by true rest h = some_same IsItem u t h a.0
    by false rest h = rest h

module _ {A : Type 0} (how : Tree → Option A) (Fits : A → Type 0) (fits : (t : Tree) (x : A) → IsItem t → how t ≡ Some x → Fits x) where
  there_fits : (x y : A) → There x ≡ There y → Fits x → Fits y
  there_fits x y e h = let same : x ≡ y = cc in subst Fits same h

  held_fits : (t : Tree) (x : A) (o : Option A) → IsItem t → how t ≡ o → field_of (Some o) ≡ There x → Fits x
  held_fits t x None i h e = let bad : ⊥ = cc in absurd bad
  held_fits t x (Some y) i h e = there_fits y x e (fits t y i h)

  typed_fits : (o : Option Tree) (x : A) → ((t : Tree) → o ≡ Some t → IsItem t) → typed how o ≡ There x → Fits x
  typed_fits None x i e = let bad : ⊥ = cc in absurd bad
  typed_fits (Some t) x i e = held_fits t x (how t) (i t refl) refl e

  at_fits : (n : ℕ) (ts : Trees) (x : A) → AreItems ts → at how n ts ≡ There x → Fits x
  at_fits n ts x a e = typed_fits (first n ts) x (λ t h. first_item n ts t a h) e

  optional_fits : (n : ℕ) (ts : Trees) (o : Option A) → AreItems ts → Optional (at how n ts) o → IfSome o Fits
  optional_fits n ts None a e = tt
  optional_fits n ts (Some x) a e = at_fits n ts x a e

  each_fits : (n : ℕ) (ts : Trees) (xs : List A) → AreItems ts → each how n ts ≡ map Some xs → All Fits xs
  unfolding each every
  each_fits n none [] a e = All-nil Fits
  each_fits n none (x ∷ xs) a e = let bad : ⊥ = cc in absurd bad
  each_fits n (more t ts) xs a e = by (tag_of t == n) xs (λ ys. each_fits n ts ys a.1) e
    where
      by : (b : Bool) (ys : List A) → ((zs : List A) → map how (every n ts) ≡ map Some zs → All Fits zs) → map how (cond b (t ∷ every n ts) (every n ts)) ≡ map Some ys → All Fits ys
      by false ys tail h = tail ys h
      by true [] tail h = let bad : ⊥ = cc in absurd bad
      by true (y ∷ ys) tail h =
          let one : how t ≡ Some y = cc in
          let rest : map how (every n ts) ≡ map Some ys = cc in
          All-cons Fits y ys (fits t y a.0 one) (tail ys rest)

  single_fits : (n : ℕ) (ts : Trees) (o : Option A) → AreItems ts → Single (each how n ts) o → IfSome o Fits
  single_fits n ts None a e = tt
  single_fits n ts (Some x) a e = All-head Fits x [] (each_fits n ts (x ∷ []) a e)

text_fits : (t : Tree) (x : List ℕ) → IsItem t → as_text t ≡ Some x → IsUtf8 x
unfolding as_text
text_fits (scalar n (Tree.text bytes)) x i e = some_same IsUtf8 bytes x e i.1
text_fits t x i e = let bad : ⊥ = cc in absurd bad

number_fits : (t : Tree) (x : ℕ) → IsItem t → as_enumeration t ≡ Some x → x < 2 ^ 32
unfolding as_enumeration
number_fits (scalar n (Tree.enumeration k)) x i e = some_same (λ (y : ℕ). y < 2 ^ 32) k x e i.1
number_fits t x i e = let bad : ⊥ = cc in absurd bad

length_fits : (t : Tree) (x : ℤ) → IsItem t → as_integer t ≡ Some x → FitsSigned w32 x
unfolding as_integer
length_fits (scalar n (Tree.integer z)) x i e = some_same (λ (y : ℤ). FitsSigned w32 y) z x e i.1
length_fits t x i e = let bad : ⊥ = cc in absurd bad

date_fits : (t : Tree) (x : ℤ) → IsItem t → as_date t ≡ Some x → FitsSigned w64 x
unfolding as_date
date_fits (scalar n (Tree.date_time z)) x i e = some_same (λ (y : ℤ). FitsSigned w64 y) z x e i.1
date_fits t x i e = let bad : ⊥ = cc in absurd bad

bytes_fit : (t : Tree) (x : List ℕ) → IsItem t → as_bytes t ≡ Some x → All (λ b. b < 256) x
unfolding as_bytes
bytes_fit (scalar n (Tree.byte_string bytes)) x i e = some_same (All (λ b. b < 256)) bytes x e i.2
bytes_fit t x i e = let bad : ⊥ = cc in absurd bad

children_fit : (t : Tree) (x : Trees) → IsItem t → as_structure t ≡ Some x → AreItems x
unfolding as_structure
children_fit (structure n ts) x i e = some_same AreItems ts x e i.1
children_fit (scalar n s) x i e = let bad : ⊥ = cc in absurd bad

-- the children of a field
field_items : (f : Field Trees) → ((us : Trees) → f ≡ There us → AreItems us) → AreItems (in_field f)
field_items Absent h = tt
field_items Wrong h = tt
field_items (There us) h = h us refl

inside_items : (n : ℕ) (ts : Trees) → AreItems ts → AreItems (inside n ts)
inside_items n ts a = field_items (at as_structure n ts) (λ us e. at_fits as_structure AreItems children_fit n ts us a e)

block_items : (ts : Trees) → AreItems ts → AreItems (block_inside ts)
block_items ts a =
    inside_items key_block (in_field (typed as_structure (object_in ts)))
    (field_items (typed as_structure (object_in ts)) (λ us e. typed_fits as_structure AreItems children_fit (object_in ts) us (λ t h. object_item ts t a h) e))

-- keys, names and attributes
block_sayable : (ts : Trees) (b : BlockOf) → AreItems ts → SaysBlock ts b → IsSayableBlock b
block_sayable ts b a s = record {
  material = at_fits as_bytes (All (λ x. x < 256)) bytes_fit key_material (inside key_value ts) b.material (inside_items key_value ts a) s.material;
  algorithm = optional_fits as_enumeration (λ (x : ℕ). x < 2 ^ 32) number_fits cryptographic_algorithm ts b.algorithm a s.algorithm;
  length = optional_fits as_integer (λ (z : ℤ). FitsSigned w32 z) length_fits cryptographic_length ts b.length a s.length;
}

name_of_fields : (f : Field (List ℕ)) (g : Field ℕ) (n : NameOf) → ((x : List ℕ) → f ≡ There x → IsUtf8 x) → ((k : ℕ) → g ≡ There k → k < 2 ^ 32) → name_from f g ≡ Some n → IsSayableName n
name_of_fields (There x) (There k) n h i e = some_same IsSayableName (record { value = x; kind = k }) n e (record { value = h x refl; kind = i k refl })
name_of_fields (There x) Absent n h i e = some_same IsSayableName (record { value = x; kind = 1 }) n e (record { value = h x refl; kind = omega arith })
name_of_fields (There x) Wrong n h i e = let bad : ⊥ = cc in absurd bad
name_of_fields Absent g n h i e = let bad : ⊥ = cc in absurd bad
name_of_fields Wrong g n h i e = let bad : ⊥ = cc in absurd bad

name_fits : (t : Tree) (n : NameOf) → IsItem t → as_name t ≡ Some n → IsSayableName n
unfolding as_name as_structure
name_fits (structure m ts) n i e =
    name_of_fields (at as_text name_value ts) (at as_enumeration name_type ts) n
    (λ x h. at_fits as_text IsUtf8 text_fits name_value ts x i.1 h)
    (λ k h. at_fits as_enumeration (λ (x : ℕ). x < 2 ^ 32) number_fits name_type ts k i.1 h) e
name_fits (scalar m s) n i e = let bad : ⊥ = cc in absurd bad

distinct_fits : (names : List NameOf) → All IsSayableName names → All IsSayableName (distinct names)
unfolding distinct
distinct_fits [] h = h
distinct_fits (n ∷ names) h =
    All-cons IsSayableName n (without n (distinct names)) (All-head IsSayableName n names h)
    (All-filter (λ (m : NameOf). not (same_name m n)) IsSayableName (distinct names) (distinct_fits names (All-tail IsSayableName n names h)))

attributes_sayable : (ts : Trees) (a : Attributes) → AreItems ts → SaysAttributes ts a → AreSayable a
attributes_sayable ts a i s =
    let number : (n : ℕ) (o : Option ℕ) → Single (each as_enumeration n ts) o → IsSayableNumber o = λ n o h. single_fits as_enumeration (λ (x : ℕ). x < 2 ^ 32) number_fits n ts o i h in
    let long : (n : ℕ) (o : Option ℤ) → Single (each as_integer n ts) o → IsSayableLength o = λ n o h. single_fits as_integer (λ (z : ℤ). FitsSigned w32 z) length_fits n ts o i h in
    let date : (n : ℕ) (o : Option ℤ) → Single (each as_date n ts) o → IsSayableDate o = λ n o h. single_fits as_date (λ (z : ℤ). FitsSigned w64 z) date_fits n ts o i h in
    let P : List NameOf → Type 0 = All IsSayableName in
    record {
      names = subst P (sym s.names.1.1) (distinct_fits s.names.0 (each_fits as_name IsSayableName name_fits name_tag ts s.names.0 i s.names.1.0));
      once = said-HasNoRepeats ts a s;
      object_type = number object_type_tag a.object_type s.object_type;
      algorithm = number cryptographic_algorithm a.algorithm s.algorithm;
      length = long cryptographic_length a.length s.length;
      mask = long cryptographic_usage_mask a.mask s.mask;
      state = number state_tag a.state s.state;
      initial = date initial_date a.initial s.initial;
      activation = date activation_date a.activation s.activation;
      deactivation = date deactivation_date a.deactivation s.deactivation;
      destroy = date destroy_date a.destroy s.destroy;
      compromise = date compromise_date a.compromise s.compromise;
    }

none_sayable : AreSayable no_attributes
none_sayable = record {
  names = All-nil IsSayableName;
  once = tt;
  object_type = tt;
  algorithm = tt;
  length = tt;
  mask = tt;
  state = tt;
  initial = tt;
  activation = tt;
  deactivation = tt;
  destroy = tt;
  compromise = tt;
}

given_sayable : (f : Field Trees) (a : Attributes) → ((us : Trees) → f ≡ There us → AreItems us) → SaysGiven f a → AreSayable a
given_sayable Absent a h s = subst AreSayable (sym s) none_sayable
given_sayable Wrong a h s = absurd s
given_sayable (There us) a h s = attributes_sayable us a (h us refl) s

new_sayable : (ts : Trees) (x : RegisteredOf) → AreItems ts → SaysRegistered ts x → SaysNew x
new_sayable ts x a s = (
  at_fits as_text IsUtf8 text_fits unique_identifier ts x.id a s.id,
  optional_fits as_enumeration (λ (n : ℕ). n < 2 ^ 32) number_fits object_type_tag ts x.object_type a s.object_type,
)

id_sayable : (ts : Trees) (o : Option (List ℕ)) → AreItems ts → Optional (at as_text unique_identifier ts) o → IsSayableId o
id_sayable ts o a s = optional_fits as_text IsUtf8 text_fits unique_identifier ts o a s

done_sayable : (operation : Operation) (ts : Trees) (p : PayloadOf) → AreItems ts → SaysDone operation ts p → IsSayable operation p
done_sayable Create ts (created x) a s = new_sayable ts x a s
done_sayable Register ts (registered x) a s = new_sayable ts x a s
done_sayable Locate ts (located ids) a s = each_fits as_text IsUtf8 text_fits unique_identifier ts ids a s
done_sayable Get ts (got g) a s = (id_sayable ts g.id a s.id, block_sayable (block_inside ts) g.block (block_items ts a) s.block)
done_sayable GetAttributes ts (got_attributes g) a s =
    (id_sayable ts g.id a s.id, given_sayable (at as_structure attributes_tag ts) g.attributes (λ us e. at_fits as_structure AreItems children_fit attributes_tag ts us a e) s.attributes)
done_sayable Activate ts (changed id) a s = id_sayable ts id a s
done_sayable Revoke ts (changed id) a s = id_sayable ts id a s
done_sayable Destroy ts (changed id) a s = id_sayable ts id a s
done_sayable operation ts p a s = absurd s

-- WHAT FITS IS SAID BY WHAT IS WRITTEN OF IT

push_items : (ts : Trees) (t : Tree) → AreItems ts → IsItem t → AreItems (push ts t)
push_items none t a i = (i, tt)
push_items (more u ts) t a i = (a.0, push_items ts t a.1 i)

abbrev AreFields : List (Option Tree) → Type 0
AreFields [] = Unit {0}
AreFields (None ∷ fields) = AreFields fields
AreFields (Some t ∷ fields) = IsItem t × AreFields fields

with_items : (ts : Trees) (fields : List (Option Tree)) → AreItems ts → AreFields fields → AreItems (with_fields ts fields)
with_items ts [] a h = a
with_items ts (None ∷ fields) a h = with_items ts fields a h
with_items ts (Some t ∷ fields) a h = with_items (push ts t) fields (push_items ts t a h.0) h.1

written_items : (fields : List (Option Tree)) → AreFields fields → AreItems (in_order fields)
written_items fields h = with_items none fields tt h

one_field : {A : Type 0} (kind : A → Scalar) (n : ℕ) (o : Option A) (fields : List (Option Tree)) → n < 2 ^ 24 → IfSome o (λ x. ScalarFits (kind x) × HasSmallBytes (kind x)) → AreFields fields
    → AreFields (field kind n o ∷ fields)
one_field kind n None fields lt h rest = rest
one_field kind n (Some x) fields lt h rest = ((lt, h.0, h.1), rest)

-- what fits as a value of a kind whose bytes aren't asked for
if_some : {A : Type 0} (P Q : A → Type 0) (o : Option A) → ((x : A) → P x → Q x) → IfSome o P → IfSome o Q
if_some P Q None f h = tt
if_some P Q (Some x) f h = f x h

text_field : (n : ℕ) (o : Option (List ℕ)) (fields : List (Option Tree)) → n < 2 ^ 24 → IsSayableId o → AreFields fields → AreFields (field Tree.text n o ∷ fields)
text_field n o fields lt h rest = one_field Tree.text n o fields lt (if_some IsUtf8 (λ x. IsUtf8 x × Unit {0}) o (λ x u. (u, tt)) h) rest

number_field : (n : ℕ) (o : Option ℕ) (fields : List (Option Tree)) → n < 2 ^ 24 → IsSayableNumber o → AreFields fields → AreFields (field Tree.enumeration n o ∷ fields)
number_field n o fields lt h rest = one_field Tree.enumeration n o fields lt (if_some (λ (x : ℕ). x < 2 ^ 32) (λ (x : ℕ). (x < 2 ^ 32) × Unit {0}) o (λ x u. (u, tt)) h) rest

length_field : (n : ℕ) (o : Option ℤ) (fields : List (Option Tree)) → n < 2 ^ 24 → IsSayableLength o → AreFields fields → AreFields (field Tree.integer n o ∷ fields)
length_field n o fields lt h rest = one_field Tree.integer n o fields lt (if_some (λ (x : ℤ). FitsSigned w32 x) (λ (x : ℤ). FitsSigned w32 x × Unit {0}) o (λ x u. (u, tt)) h) rest

-- attributes
abbrev RowsFit : List (ℕ × Option Scalar) → Type 0
RowsFit [] = Unit {0}
RowsFit (row ∷ rows) = IfSome row.1 (λ s. IsItem (scalar row.0 s)) × RowsFit rows

scalar_items : (ts : Trees) (n : ℕ) (o : Option Scalar) → AreItems ts → IfSome o (λ s. IsItem (scalar n s)) → AreItems (with_scalar ts n o)
scalar_items ts n None a h = a
scalar_items ts n (Some s) a h = push_items ts (scalar n s) a h

scalars_items : (ts : Trees) (rows : List (ℕ × Option Scalar)) → AreItems ts → RowsFit rows → AreItems (with_scalars ts rows)
scalars_items ts [] a h = a
scalars_items ts (row ∷ rows) a h = scalars_items (with_scalar ts row.0 row.1) rows (scalar_items ts row.0 row.1 a h.0) h.1

number_row : (n : ℕ) (o : Option ℕ) → n < 2 ^ 24 → IsSayableNumber o → IfSome (enumerated o) (λ s. IsItem (scalar n s))
number_row n None lt h = tt
number_row n (Some x) lt h = (lt, h, tt)

length_row : (n : ℕ) (o : Option ℤ) → n < 2 ^ 24 → IsSayableLength o → IfSome (counted o) (λ s. IsItem (scalar n s))
length_row n None lt h = tt
length_row n (Some x) lt h = (lt, h, tt)

date_row : (n : ℕ) (o : Option ℤ) → n < 2 ^ 24 → IsSayableDate o → IfSome (dated o) (λ s. IsItem (scalar n s))
date_row n None lt h = tt
date_row n (Some x) lt h = (lt, h, tt)

names_items : (names : List NameOf) → All IsSayableName names → AreItems (forest name_tree names)
names_items [] h = tt
names_items (n ∷ names) h =
    let i = All-head IsSayableName n names h in
    let value : IsItem (scalar name_value (Tree.text n.value)) = (omega arith, i.value, tt) in
    let kind : IsItem (scalar name_type (Tree.enumeration n.kind)) = (omega arith, i.kind, tt) in
    ((omega arith, (value, (kind, tt))), names_items names (All-tail IsSayableName n names h))

attributes_items : (a : Attributes) → AreSayable a → AreItems (written_children a)
attributes_items a h =
    scalars_items (forest name_tree a.names) (single_rows a) (names_items a.names h.names) (
      number_row object_type_tag a.object_type (omega arith) h.object_type,
      (
        number_row cryptographic_algorithm a.algorithm (omega arith) h.algorithm,
        (
          length_row cryptographic_length a.length (omega arith) h.length,
          (
            length_row cryptographic_usage_mask a.mask (omega arith) h.mask,
            (
              number_row state_tag a.state (omega arith) h.state,
              (
                date_row initial_date a.initial (omega arith) h.initial,
                (
                  date_row activation_date a.activation (omega arith) h.activation,
                  (
                    date_row deactivation_date a.deactivation (omega arith) h.deactivation,
                    (
                      date_row destroy_date a.destroy (omega arith) h.destroy,
                      (date_row compromise_date a.compromise (omega arith) h.compromise, tt),
                    ),
                  ),
                ),
              ),
            ),
          ),
        ),
      ),
    )

-- keys
small_format : (f : KeyFormat) → format_number f < 2 ^ 32
small_format format.Raw = omega arith
small_format format.Opaque = omega arith

small_type : (k : ObjectType) → type_number k < 2 ^ 32
small_type SymmetricKey = omega arith
small_type SecretData = omega arith

object_small : (k : ObjectType) → object_tag k < 2 ^ 24
object_small SymmetricKey = omega arith
object_small SecretData = omega arith

type_sayable : (o : Option ObjectType) → IsSayableNumber (option_map type_number o)
type_sayable None = tt
type_sayable (Some k) = small_type k

block_item : (b : BlockOf) → IsSayableBlock b → IsItem (written_block b)
block_item b h =
    let value : IsItem (written_value b.material) = (omega arith, written_items (field Tree.byte_string key_material (Some b.material) ∷ []) ((omega arith, tt, h.material), tt)) in
    let last = field Tree.integer cryptographic_length b.length ∷ [] in
    let numbers = field Tree.enumeration cryptographic_algorithm b.algorithm ∷ last in
    let behind : AreFields (Some (written_value b.material) ∷ numbers) =
    (value, number_field cryptographic_algorithm b.algorithm last (omega arith) h.algorithm (length_field cryptographic_length b.length [] (omega arith) h.length tt)) in (
      omega arith,
      written_items (block_fields b)
          (number_field key_format_type (Some (format_number b.format)) (Some (written_value b.material) ∷ numbers) (omega arith) (small_format b.format) behind),
    )

object_item_written : (k : ObjectType) (b : BlockOf) → IsSayableBlock b → IsItem (written_object k b)
object_item_written k b h = (object_small k, written_items (Some (written_block b) ∷ []) (block_item b h, tt))

-- payloads
new_items : (x : RegisteredOf) → SaysNew x → AreItems (in_order (payload_fields (registered x)))
new_items x h =
    written_items (payload_fields (registered x))
    (number_field object_type_tag x.object_type _ (omega arith) h.1 (text_field unique_identifier (Some x.id) [] (omega arith) h.0 tt))

listed_fields : (ids : List (List ℕ)) → SaysListed ids → AreFields (located_fields ids)
listed_fields [] h = tt
listed_fields (id ∷ ids) h = ((omega arith, All-head IsUtf8 id ids h, tt), listed_fields ids (All-tail IsUtf8 id ids h))

id_items : (o : Option (List ℕ)) → IsSayableId o → AreItems (in_order (payload_fields (changed o)))
id_items o h = written_items (payload_fields (changed o)) (text_field unique_identifier o [] (omega arith) h tt)

key_items : (g : GotOf) → SaysKey g → AreItems (in_order (payload_fields (got g)))
key_items g h =
    let object : AreFields (Some (written_object g.shape g.block) ∷ []) = (object_item_written g.shape g.block h.1, tt) in
    let rest = Some (written_object g.shape g.block) ∷ [] in
    written_items (payload_fields (got g))
    (number_field object_type_tag (option_map type_number g.object_type) (field Tree.text unique_identifier g.id ∷ rest) (omega arith) (type_sayable g.object_type)
    (text_field unique_identifier g.id rest (omega arith) h.0 object))

own_items : (g : GotAttributesOf) → SaysOwn g → AreItems (in_order (payload_fields (got_attributes g)))
own_items g h =
    written_items (payload_fields (got_attributes g))
    (text_field unique_identifier g.id _ (omega arith) h.0 ((omega arith, attributes_items g.attributes h.1), tt))

own_said : (g : GotAttributesOf) → SaysOwn g → SaysGotAttributes (in_order (got_attributes_fields g)) g
unfolding as_text
own_said g h =
    let attributes = Some (written_attributes g.attributes) ∷ [] in
    let P : Attributes → Type 0 = SaysAttributes (written_children g.attributes) in
    record {
      id = optional_written as_text Tree.text unique_identifier g.id (got_attributes_fields g) attributes refl refl (λ x. refl) refl;
      attributes = given_written (There (written_children g.attributes)) (got_attributes_fields g) g.attributes (skipped Tree.text unique_identifier attributes_tag g.id attributes refl)
          (subst P (once-same g.attributes h.1.once) (written_said g.attributes));
    }

written_sayable : (operation : Operation) (p : PayloadOf) → IsSayable operation p → AreItems (in_order (payload_fields p)) × SaysDone operation (in_order (payload_fields p)) p
written_sayable Create (created x) h = (new_items x h, registered_written x)
written_sayable Register (registered x) h = (new_items x h, registered_written x)
written_sayable Locate (located ids) h = (written_items (located_fields ids) (listed_fields ids h), located_written ids)
written_sayable Get (got g) h = (key_items g h, got_written g)
written_sayable GetAttributes (got_attributes g) h = (own_items g h, own_said g h)
written_sayable Activate (changed id) h = (id_items id h, identifier_written id)
written_sayable Revoke (changed id) h = (id_items id h, identifier_written id)
written_sayable Destroy (changed id) h = (id_items id h, identifier_written id)
written_sayable operation p h = absurd h

said_sayable : (operation : Operation) (t : Tree) (p : PayloadOf) → IsItem t → SaysPayloadOf operation t p → IsSayable operation p
said_sayable operation (structure n ts) p i s = done_sayable operation ts p i.1 s
said_sayable operation (scalar n s) p i h = absurd h

pub sayable_is_said : SayableIsSaid
sayable_is_said ask p = (
  λ x. said_sayable (operation_asked ask.asked) x.0 p x.1 x.2,
  λ h.
      let w = written_sayable (operation_asked ask.asked) p h in
      (written_payload p, (omega arith, w.0), w.1),
)
