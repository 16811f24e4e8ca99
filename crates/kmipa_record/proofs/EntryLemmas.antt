-- Entries: what their items say, and what may be declared of them.
use Rattle.std.proofs.Common.{◌≡◌, ◌<◌, ◌*◌, ◌%◌, ℕ, ℤ, pos, negsuc, ◌/◌, is_some, List, [], ◌∷◌, length, map, true, false, Option, None, Some, Result, Ok, Err, IfSome, IsSome, ◌⊎◌, inl, inr, refl, sym, ap, subst, ◌∙◌, arith}
use Rattle.std.specs.Prelude.{All}
use Rattle.kmipa_ttlv.specs.Tree.{Tree, Trees, scalar, text, byte_string}
use Rattle.kmipa_attrs.proofs.AttrLemmas.{reads_attributes}
use Rattle.kmipa_attrs.specs.Attributes.{attr_number, Single, SaysNames, SomeWrong, SingleFault, NamesFault, SaysAttributes, AttributesFault, GivesAttributes, attributes_in, in_names, in_object_type, in_algorithm, in_length, in_mask, in_state, in_initial, in_activation, in_deactivation, in_destroy, in_compromise, of_client_state, of_client_initial, of_client_destroy, of_client_compromise, of_client_identifier}
use Rattle.kmipa_attrs.specs.Fields.{tag_of}
use Rattle.kmipa_attrs.specs.ObjectTypes.{type_number}
use Rattle.kmipa_attrs.specs.Tags.{key_material}
use Rattle.kmipa_attrs.specs.Readings.{Reads}
use Rattle.kmipa_attrs.specs.Sets.{NameOf, Attributes, attributes_of}
use Rattle.kmipa_attrs.specs.declared.attr_set.AttrSet.{AttrSet}
use Rattle.kmipa_attrs.specs.declared.fault.AttrFault.{AttrFault}
use Rattle.kmipa_attrs.specs.declared.fault.AttrFault.TheVariants.{WrongType, Repeated, NotForClients, Memory}
use Rattle.kmipa_attrs.specs.declared.object_type.ObjectType.{ObjectType}
use Rattle.kmipa_attrs.specs.declared.object_type.ObjectType.TheVariants.{SymmetricKey, SecretData}
use Rattle.kmipa_attrs.specs.declared.side.Side.TheVariants.{Server}
use Rattle.kmipa_record.specs.DeclarationReading.{are_whole_bytes}
use Rattle.kmipa_record.specs.Tags.{owner_tag}
use Rattle.kmipa_record.specs.Entries.{EntryOf, AreListed, material, ownership, entry_item, SaysEntry, key_bits, AreWholeBytes, IsDeclarable}

-- ---- attributes say one set

no_wrong : (said : List NameOf) (held : List (Option NameOf)) → held ≡ map Some said → SomeWrong held → ⊥
no_wrong [] [] e w = w
no_wrong (n ∷ said) [] e w = w
no_wrong [] (x ∷ held) e w = absurd cc
no_wrong (n ∷ said) (None ∷ held) e w = absurd cc
no_wrong (n ∷ said) (Some m ∷ held) e w =
    let tail : held ≡ map Some said = cc in
    no_wrong said held tail w

right_names : (held : List (Option NameOf)) (names : List NameOf) (k : AttrFault) → SaysNames held names → NamesFault held k → ⊥
right_names held names WrongType s f = no_wrong s.0 held s.1.0 f
right_names held names Repeated s f = f
right_names held names NotForClients s f = f
right_names held names Memory s f = f

right_single : {A : Type 0} (held : List (Option A)) (x : Option A) (k : AttrFault) → Single held x → SingleFault held k → ⊥
right_single held None WrongType s f = subst SomeWrong s f
right_single held (Some x) WrongType s f = subst SomeWrong s f
right_single held None Repeated s f = absurd (omega (arith, ap length s, f))
right_single held (Some x) Repeated s f = absurd (omega (arith, ap length s, f))
right_single held x NotForClients s f = f
right_single held x Memory s f = f

right_set : (ts : Trees) (a : Attributes) (k : AttrFault) → SaysAttributes ts a → AttributesFault Server ts k → ⊥
right_set ts a k s (in_names f) = right_names _ a.names k s.names f
right_set ts a k s (in_object_type f) = right_single _ a.object_type k s.object_type f
right_set ts a k s (in_algorithm f) = right_single _ a.algorithm k s.algorithm f
right_set ts a k s (in_length f) = right_single _ a.length k s.length f
right_set ts a k s (in_mask f) = right_single _ a.mask k s.mask f
right_set ts a k s (in_state f) = right_single _ a.state k s.state f
right_set ts a k s (in_initial f) = right_single _ a.initial k s.initial f
right_set ts a k s (in_activation f) = right_single _ a.activation k s.activation f
right_set ts a k s (in_deactivation f) = right_single _ a.deactivation k s.deactivation f
right_set ts a k s (in_destroy f) = right_single _ a.destroy k s.destroy f
right_set ts a k s (in_compromise f) = right_single _ a.compromise k s.compromise f
right_set ts a k s (of_client_state f) = f
right_set ts a k s (of_client_initial f) = f
right_set ts a k s (of_client_destroy f) = f
right_set ts a k s (of_client_compromise f) = f
right_set ts a k s (of_client_identifier f) = f

one_of : (ts : Trees) (r : Result Attributes AttrFault) (a b : Attributes) → Reads attr_number (SaysAttributes ts) (AttributesFault Server ts) r → SaysAttributes ts a → SaysAttributes ts b → a ≡ b
one_of ts (Ok x) a b r s t = r.only a s ∙ sym (r.only b t)
one_of ts (Err k) a b r s t = absurd (right_set ts a k s r.here)

one_set : (ts : Trees) (a b : Attributes) → SaysAttributes ts a → SaysAttributes ts b → a ≡ b
one_set ts a b s t = one_of ts (attributes_in Server ts) a b (reads_attributes Server ts) s t

-- ---- the attributes of an entry

read_of : (ts : Trees) (r : Result Attributes AttrFault) → attributes_in Server ts ≡ r → Reads attr_number (SaysAttributes ts) (AttributesFault Server ts) r
read_of ts r e = subst (λ (x : Result Attributes AttrFault). Reads attr_number (SaysAttributes ts) (AttributesFault Server ts) x) e (reads_attributes Server ts)

pub set_said : (ts : Trees) (set : AttrSet) → GivesAttributes (Ok set) (attributes_in Server ts) → SaysAttributes ts (attributes_of set)
set_said ts set g = let r = read_of ts (Ok (attributes_of set)) g in r.said

refuted : (ts : Trees) (f : AttrFault) → attributes_in Server ts ≡ Err f → (a : Attributes) → SaysAttributes ts a → ⊥
refuted ts f g a s = let r = read_of ts (Err f) g in right_set ts a f s r.here

pub fault_unsaid : (ts : Trees) (f : AttrFault) → (f ≡ WrongType) ⊎ ((f ≡ Repeated) ⊎ (f ≡ NotForClients)) → GivesAttributes (Err f) (attributes_in Server ts)
    → (a : Attributes) → SaysAttributes ts a → ⊥
fault_unsaid ts WrongType other g = refuted ts WrongType g
fault_unsaid ts Repeated other g = refuted ts Repeated g
fault_unsaid ts NotForClients other g = refuted ts NotForClients g
fault_unsaid ts Memory (inl e) g = absurd cc
fault_unsaid ts Memory (inr (inl e)) g = absurd cc
fault_unsaid ts Memory (inr (inr e)) g = absurd cc

-- ---- the parts of an entry's item

type_once : (a b : ObjectType) → type_number a ≡ type_number b → a ≡ b
type_once SymmetricKey SymmetricKey e = refl
type_once SymmetricKey SecretData e = absurd (omega (arith, e))
type_once SecretData SymmetricKey e = absurd (omega (arith, e))
type_once SecretData SecretData e = refl

ownership_once : (o p : Option (List ℕ)) → ownership o ≡ ownership p → o ≡ p
ownership_once None None e = refl
ownership_once None (Some y) e = absurd cc
ownership_once (Some x) None e = absurd cc
ownership_once (Some x) (Some y) e = cc

-- an owner is no Key Material
no_material : (o : Option (List ℕ)) (x : List ℕ) (rest : Trees) → ownership o ≡ material (Some x) rest → ⊥
no_material None x rest e = absurd cc
no_material (Some owner) x rest e =
    absurd (let both : scalar owner_tag (text owner) ≡ scalar key_material (byte_string x) = cc in omega (arith, ap tag_of both))

material_once : (a b o p : Option (List ℕ)) → material a (ownership o) ≡ material b (ownership p) → (a ≡ b) × (o ≡ p)
material_once None None o p e = (refl, ownership_once o p e)
material_once None (Some y) o p e = absurd (no_material o y (ownership p) e)
material_once (Some x) None o p e = absurd (no_material p x (ownership o) (sym e))
material_once (Some x) (Some y) o p e =
    let tail : ownership o ≡ ownership p = cc in
    let head : x ≡ y = cc in
    (ap Some head, ownership_once o p tail)

pub record SameParts (i j : List ℕ) (k l : ObjectType) (ts us : Trees) (x y o p : Option (List ℕ)) : Type 0 where
  pub id : i ≡ j
  pub kind : k ≡ l
  pub attributes : ts ≡ us
  pub bytes : x ≡ y
  pub owner : o ≡ p

pub parts_once : (i j : List ℕ) (k l : ObjectType) (ts us : Trees) (x y o p : Option (List ℕ)) → entry_item i k ts x o ≡ entry_item j l us y p → SameParts i j k l ts us x y o p
parts_once i j k l ts us x y o p e =
    let kinds : type_number k ≡ type_number l = cc in
    let behind : material x (ownership o) ≡ material y (ownership p) = cc in
    let both = material_once x y o p behind in
    record { id = cc; kind = type_once k l kinds; attributes = cc; bytes = both.0; owner = both.1 }

-- what is behind the attributes, as it is read
pub read_behind : (bytes : Option (List ℕ)) (rest given : Trees) → given ≡ material bytes rest → (bytes ≡ None → (x : List ℕ) (more : Trees) → given ≡ material (Some x) more → ⊥)
    → (b o : Option (List ℕ)) → given ≡ material b (ownership o) → rest ≡ ownership o
read_behind None rest given e first None o f = sym e ∙ f
read_behind None rest given e first (Some x) o f = absurd (first refl x (ownership o) f)
read_behind (Some y) rest given e first None o f = absurd (no_material o y rest (sym f ∙ e))
read_behind (Some y) rest given e first (Some x) o f = let both = sym e ∙ f in cc

-- ---- an item is one entry

abbrev entry_with : List ℕ → ObjectType → Attributes → Option (List ℕ) → Option (List ℕ) → EntryOf
entry_with id kind attributes bytes owner = record { id = id; kind = kind; attributes = attributes; bytes = bytes; owner = owner }

pub same_entry : (e f : EntryOf) → e.id ≡ f.id → e.kind ≡ f.kind → e.attributes ≡ f.attributes → e.bytes ≡ f.bytes → e.owner ≡ f.owner → e ≡ f
same_entry e f p q r s o =
    ap (λ (x : List ℕ). entry_with x e.kind e.attributes e.bytes e.owner) p
    ∙ ap (λ (x : ObjectType). entry_with f.id x e.attributes e.bytes e.owner) q
    ∙ ap (λ (x : Attributes). entry_with f.id f.kind x e.bytes e.owner) r
    ∙ ap (λ (x : Option (List ℕ)). entry_with f.id f.kind f.attributes x e.owner) s
    ∙ ap (entry_with f.id f.kind f.attributes f.bytes) o

pub one_entry : (item : Tree) (e f : EntryOf) → SaysEntry item e → SaysEntry item f → e ≡ f
one_entry item e f s t =
    let parts = parts_once e.id f.id e.kind f.kind s.attributes t.attributes e.bytes f.bytes e.owner f.owner (sym s.is ∙ t.is) in
    same_entry e f parts.id parts.kind (one_set t.attributes e.attributes f.attributes (subst (λ (ts : Trees). SaysAttributes ts e.attributes) parts.attributes s.said) t.said) parts.bytes parts.owner

-- ---- its bytes

pub not_there : (o : Option ℤ) → is_some o ≡ false → o ≡ None
not_there None e = refl
not_there (Some x) e = absurd cc

pub whole_bytes : (bits : ℤ) → are_whole_bytes bits ≡ true → AreWholeBytes bits
whole_bytes (pos bits) e =
    let some : 0 < bits = grind (arith, e) in
    let none_left : bits % 8 ≡ 0 = grind (arith, e) in
    record { count = bits / 8; some = omega (arith, some, none_left); filled = ap pos (omega (arith, none_left)) }
whole_bytes (negsuc n) e = absurd cc

pub fits_bits : (e : EntryOf) (bits : ℤ) → e.attributes.destroy ≡ None → key_bits e.kind e.attributes ≡ Some bits → AreWholeBytes bits → IfSome e.bytes (λ bytes. All (λ b. b < 256) bytes)
    → IfSome e.bytes (λ bytes. bits ≡ pos (8 * length bytes)) → IsDeclarable e
fits_bits e bits live is whole small fits = record {
  gone = λ gone. absurd (let there : false ≡ true = subst IsSome live gone in cc);
  whole = λ _. subst (λ (o : Option ℤ). IfSome o AreWholeBytes) (sym is) whole;
  fitting = λ _. subst (λ (o : Option ℤ). IfSome e.bytes (λ bytes. IfSome o (λ n. n ≡ pos (8 * length bytes)))) (sym is) fits;
  small = small;
}

pub declared_bits : (e : EntryOf) (bits : ℤ) → e.attributes.destroy ≡ None → key_bits e.kind e.attributes ≡ Some bits → IsDeclarable e → IfSome e.bytes (λ bytes. bits ≡ pos (8 * length bytes))
declared_bits e bits live is d = subst (λ (o : Option ℤ). IfSome e.bytes (λ bytes. IfSome o (λ n. n ≡ pos (8 * length bytes)))) is (d.fitting live)

any_bytes : (o : Option (List ℕ)) (bits : Option ℤ) → bits ≡ None → IfSome o (λ bytes. IfSome bits (λ n. n ≡ pos (8 * length bytes)))
any_bytes None bits e = tt
any_bytes (Some bytes) None e = tt
any_bytes (Some bytes) (Some n) e = absurd cc

pub fits_any : (e : EntryOf) → e.attributes.destroy ≡ None → key_bits e.kind e.attributes ≡ None → IfSome e.bytes (λ bytes. All (λ b. b < 256) bytes) → IsDeclarable e
fits_any e live is small = record {
  gone = λ gone. absurd (let there : false ≡ true = subst IsSome live gone in cc);
  whole = λ _. subst (λ (o : Option ℤ). IfSome o AreWholeBytes) (sym is) tt;
  fitting = λ _. any_bytes e.bytes (key_bits e.kind e.attributes) is;
  small = small;
}

-- ---- items that are no entry

pub unlisted : (item : Tree) (id : List ℕ) (kind : ObjectType) (attributes : Trees) (bytes owner : Option (List ℕ)) → item ≡ entry_item id kind attributes bytes owner
    → ((a : Attributes) → AreListed attributes → ¬ (SaysAttributes attributes a)) → (e : EntryOf) → SaysEntry item e → ⊥
unlisted item id kind attributes bytes owner is no_set e s =
    let parts = parts_once e.id id e.kind kind s.attributes attributes e.bytes bytes e.owner owner (sym s.is ∙ is) in
    no_set e.attributes (subst AreListed parts.attributes s.listed) (subst (λ (ts : Trees). SaysAttributes ts e.attributes) parts.attributes s.said)
