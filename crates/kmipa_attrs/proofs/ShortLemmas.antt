-- No children that say a set are shorter than those that are written short.
use Rattle.std.proofs.Common.{◌≡◌, ◌≤◌, ◌+◌, ◌==◌, ℕ, ℤ, Bool, true, false, cond, List, [], ◌∷◌, map, length, Some, None, Option, refl, sym, ap, subst, arith}
use Rattle.std.specs.Prelude.{not}
use Rattle.std.specs.List.{filter}
use Rattle.std.proofs.lemmas.Bool.Decides.{Decides-eqb}
use Rattle.kmipa_ttlv.specs.Tree.{Tree, Trees, Scalar, structure, scalar, none, more, push, forest}
use Rattle.kmipa_ttlv.specs.Tree
use Rattle.kmipa_ttlv.specs.Spelling.{padded}
use Rattle.kmipa_ttlv.specs.Written.{scalar_bytes, size, sizes, depth, depths, Sound, AllSound, SoundScalar}
use Rattle.kmipa_attrs.specs.Tags.{activation_date, compromise_date, cryptographic_algorithm, cryptographic_length, cryptographic_usage_mask, deactivation_date, destroy_date, initial_date, name_tag, name_type, name_value, object_type_tag, state_tag, attributes_tag}
use Rattle.kmipa_attrs.specs.Sets.{NameOf, Attributes}
use Rattle.kmipa_attrs.specs.Names.{as_name, name_from, same_name, distinct}
use Rattle.kmipa_attrs.specs.Fields.{tag_of, first, every, field_of, typed, as_structure, as_text, as_integer, as_enumeration, as_date}
use Rattle.kmipa_attrs.specs.Attributes.{each, Single, SaysNames, SaysAttributes}
use Rattle.kmipa_attrs.specs.declared.fields.Field.TheVariants.{There}
use Rattle.kmipa_attrs.specs.Writing.{short_name, type_child, with_scalar, with_scalars, single_rows, enumerated, counted, dated, short_children, SaysWhole}

abbrev sum_sizes : List Tree → ℕ
sum_sizes [] = 0
sum_sizes (t ∷ ts) = size t + sum_sizes ts

-- ---- the children with a tag

abbrev total : ℕ → Trees → ℕ
total n ts = sum_sizes (every n ts)

abbrev totals : List ℕ → Trees → ℕ
totals [] ts = 0
totals (n ∷ ns) ts = total n ts + totals ns ts

-- whether a tag is none of these, and whether no two of these are the same
abbrev is_away : ℕ → List ℕ → Bool
is_away n [] = true
is_away n (m ∷ ns) = cond (n == m) false (is_away n ns)

abbrev are_apart : List ℕ → Bool
are_apart [] = true
are_apart (n ∷ ns) = cond (is_away n ns) (are_apart ns) false

totals_away : (ns : List ℕ) (t : Tree) (ts : Trees) → is_away (tag_of t) ns ≡ true → totals ns (more t ts) ≡ totals ns ts
unfolding every
totals_away [] t ts e = refl
totals_away (m ∷ ns) t ts e = by (tag_of t == m) e (totals_away ns t ts)
  where
    by : (b : Bool) → cond b false (is_away (tag_of t) ns) ≡ true → (is_away (tag_of t) ns ≡ true → totals ns (more t ts) ≡ totals ns ts)
        → sum_sizes (cond b (t ∷ every m ts) (every m ts)) + totals ns (more t ts) ≡ total m ts + totals ns ts
    by true e h = absurd cc
    by false e h = ap (λ (k : ℕ). total m ts + k) (h e)

totals_more : (ns : List ℕ) (t : Tree) (ts : Trees) → are_apart ns ≡ true → totals ns (more t ts) ≤ size t + totals ns ts
unfolding every
totals_more [] t ts e = omega arith
totals_more (m ∷ ns) t ts e = by (tag_of t == m) refl (is_away m ns) refl e (totals_more ns t ts)
  where
    by : (b : Bool) → (tag_of t == m) ≡ b → (w : Bool) → is_away m ns ≡ w → cond w (are_apart ns) false ≡ true → (are_apart ns ≡ true → totals ns (more t ts) ≤ size t + totals ns ts)
        → sum_sizes (cond b (t ∷ every m ts) (every m ts)) + totals ns (more t ts) ≤ size t + (total m ts + totals ns ts)
    by b is false w e h = absurd cc
    by true is true w e h = omega (arith, totals_away ns t ts (subst (λ (k : ℕ). is_away k ns ≡ true) (sym ((Decides-eqb (tag_of t) m).0 is)) w))
    by false is true w e h = omega (arith, h e)

totals_none : (ns : List ℕ) → totals ns none ≡ 0
unfolding every
totals_none [] = refl
totals_none (n ∷ ns) = omega (arith, totals_none ns)

totals_within : (ns : List ℕ) (ts : Trees) → are_apart ns ≡ true → totals ns ts ≤ sizes ts
totals_within ns none e = omega (arith, totals_none ns)
totals_within ns (more t ts) e = omega (arith, totals_more ns t ts e, totals_within ns ts e)

-- ---- single values

abbrev row_size : Option Scalar → ℕ
row_size None = 0
row_size (Some s) = 8 + padded (length (scalar_bytes s))

abbrev rows_size : List (ℕ × Option Scalar) → ℕ
rows_size [] = 0
rows_size (row ∷ rows) = row_size row.1 + rows_size rows

sizes_push : (ts : Trees) (t : Tree) → sizes (push ts t) ≡ sizes ts + size t
sizes_push none t = omega arith
sizes_push (more u ts) t = omega (arith, sizes_push ts t)

sizes_row : (ts : Trees) (n : ℕ) (v : Option Scalar) → sizes (with_scalar ts n v) ≡ sizes ts + row_size v
sizes_row ts n None = omega arith
sizes_row ts n (Some s) = sizes_push ts (scalar n s)

sizes_rows : (ts : Trees) (rows : List (ℕ × Option Scalar)) → sizes (with_scalars ts rows) ≡ sizes ts + rows_size rows
sizes_rows ts [] = omega arith
sizes_rows ts (row ∷ rows) = omega (arith, sizes_rows (with_scalar ts row.0 row.1) rows, sizes_row ts row.0 row.1)

some_there : {A : Type 0} (how : Tree → Option A) (us : List Tree) (x : A) → ((t : Tree) → how t ≡ Some x → 16 ≤ size t) → map how us ≡ Some x ∷ [] → 16 ≤ sum_sizes us
some_there how [] x least e = absurd cc
some_there how (t ∷ us) x least e = let here : how t ≡ Some x = cc in omega (arith, least t here)

enumeration_size : (t : Tree) (x : ℕ) → as_enumeration t ≡ Some x → 16 ≤ size t
unfolding as_enumeration
enumeration_size (scalar n (Tree.enumeration y)) x e = omega arith
enumeration_size _ x e = absurd cc

integer_size : (t : Tree) (x : ℤ) → as_integer t ≡ Some x → 16 ≤ size t
unfolding as_integer
integer_size (scalar n (Tree.integer y)) x e = omega arith
integer_size _ x e = absurd cc

date_size : (t : Tree) (x : ℤ) → as_date t ≡ Some x → 16 ≤ size t
unfolding as_date
date_size (scalar n (Tree.date_time y)) x e = omega arith
date_size _ x e = absurd cc

enumerated_least : (n : ℕ) (v : Option ℕ) (ts : Trees) → Single (each as_enumeration n ts) v → row_size (enumerated v) ≤ total n ts
unfolding each
enumerated_least n None ts s = omega arith
enumerated_least n (Some x) ts s = some_there as_enumeration (every n ts) x (λ t e. enumeration_size t x e) s

counted_least : (n : ℕ) (v : Option ℤ) (ts : Trees) → Single (each as_integer n ts) v → row_size (counted v) ≤ total n ts
unfolding each
counted_least n None ts s = omega arith
counted_least n (Some x) ts s = some_there as_integer (every n ts) x (λ t e. integer_size t x e) s

dated_least : (n : ℕ) (v : Option ℤ) (ts : Trees) → Single (each as_date n ts) v → row_size (dated v) ≤ total n ts
unfolding each
dated_least n None ts s = omega arith
dated_least n (Some x) ts s = some_there as_date (every n ts) x (λ t e. date_size t x e) s

-- ---- names

abbrev names_size : List NameOf → ℕ
names_size [] = 0
names_size (n ∷ names) = size (short_name n) + names_size names

sizes_names : (names : List NameOf) → sizes (forest short_name names) ≡ names_size names
sizes_names [] = refl
sizes_names (n ∷ names) = omega (arith, sizes_names names)

names_filtered : (p : NameOf → Bool) (names : List NameOf) → names_size (filter p names) ≤ names_size names
names_filtered p [] = omega arith
names_filtered p (n ∷ names) = by (p n) (names_filtered p names)
  where
    by : (b : Bool) → names_size (filter p names) ≤ names_size names → names_size (cond b (n ∷ filter p names) (filter p names)) ≤ size (short_name n) + names_size names
    by true h = omega (arith, h)
    by false h = omega (arith, h)

names_distinct : (names : List NameOf) → names_size (distinct names) ≤ names_size names
unfolding distinct
names_distinct [] = omega arith
names_distinct (n ∷ names) = omega (arith, names_filtered (λ m. not (same_name m n)) (distinct names), names_distinct names)

first_total : (k : ℕ) (ts : Trees) (u : Tree) → first k ts ≡ Some u → size u ≤ total k ts
unfolding first every
first_total k none u e = absurd cc
first_total k (more t ts) u e = by (tag_of t == k) e (first_total k ts u)
  where
    by : (b : Bool) → cond b (Some t) (first k ts) ≡ Some u → (first k ts ≡ Some u → size u ≤ total k ts) → size u ≤ sum_sizes (cond b (t ∷ every k ts) (every k ts))
    by true e h = let same : t ≡ u = cc in omega (arith, ap size same)
    by false e h = h e

text_size : (u : Tree) (v : List ℕ) → as_text u ≡ Some v → size u ≡ 8 + padded (length v)
unfolding as_text
text_size (scalar n (Tree.text bs)) v e = let same : bs ≡ v = cc in ap (λ (l : List ℕ). 8 + padded (length l)) same
text_size _ v e = absurd cc

type_size : (b : Bool) (k : ℕ) → sizes (type_child b k) ≤ 16
type_size true k = omega arith
type_size false k = omega arith

kind_least : (ts : Trees) (u w : Tree) (v : List ℕ) (held : Option ℕ) (n : NameOf) → first name_value ts ≡ Some u → first name_type ts ≡ Some w → as_text u ≡ Some v → as_enumeration w ≡ held
    → name_from (There v) (field_of (Some held)) ≡ Some n → size (short_name n) ≤ 8 + sizes ts
kind_least ts u w v None n fv ft text kind e = absurd cc
kind_least ts u w v (Some k) n fv ft text kind e =
    let same : record { value = v; kind = k } ≡ n = cc in
    omega (
      arith,
      ap (λ (m : NameOf). size (short_name m)) same,
      type_size (k == 1) k,
      text_size u v text,
      enumeration_size w k kind,
      first_total name_value ts u fv,
      first_total name_type ts w ft,
      totals_within (name_value ∷ name_type ∷ []) ts refl,
    )

value_least : (ts : Trees) (u : Tree) (held : Option (List ℕ)) (g : Option Tree) (n : NameOf) → first name_value ts ≡ Some u → first name_type ts ≡ g → as_text u ≡ held
    → name_from (field_of (Some held)) (typed as_enumeration g) ≡ Some n → size (short_name n) ≤ 8 + sizes ts
value_least ts u None g n fv ft text e = absurd cc
value_least ts u (Some v) None n fv ft text e =
    let same : record { value = v; kind = 1 } ≡ n = cc in
    omega (arith, ap (λ (m : NameOf). size (short_name m)) same, text_size u v text, first_total name_value ts u fv, totals_within (name_value ∷ []) ts refl)
value_least ts u (Some v) (Some w) n fv ft text e = kind_least ts u w v (as_enumeration w) n fv ft text refl e

from_least : (ts : Trees) (f g : Option Tree) (n : NameOf) → first name_value ts ≡ f → first name_type ts ≡ g → name_from (typed as_text f) (typed as_enumeration g) ≡ Some n
    → size (short_name n) ≤ 8 + sizes ts
from_least ts None g n fv ft e = absurd cc
from_least ts (Some u) g n fv ft e = value_least ts u (as_text u) g n fv ft refl e

name_least : (t : Tree) (n : NameOf) → as_name t ≡ Some n → size (short_name n) ≤ size t
unfolding as_name as_structure
name_least (structure m ts) n e = from_least ts (first name_value ts) (first name_type ts) n refl refl e
name_least (scalar m s) n e = absurd cc

named_least : (us : List Tree) (said : List NameOf) → map as_name us ≡ map Some said → names_size said ≤ sum_sizes us
named_least [] [] e = omega arith
named_least [] (n ∷ said) e = absurd cc
named_least (t ∷ us) [] e = absurd cc
named_least (t ∷ us) (n ∷ said) e =
    let here : as_name t ≡ Some n = cc in
    let rest : map as_name us ≡ map Some said = cc in
    omega (arith, name_least t n here, named_least us said rest)

names_least : (ts : Trees) (names : List NameOf) → SaysNames (each as_name name_tag ts) names → names_size names ≤ total name_tag ts
unfolding each
names_least ts names s = omega (arith, named_least (every name_tag ts) s.0 s.1.0, names_distinct s.0, ap names_size s.1.1)

-- ---- whole sets

abbrev all_tags : List ℕ
all_tags =
    name_tag ∷
    object_type_tag ∷
    cryptographic_algorithm ∷
    cryptographic_length ∷
    cryptographic_usage_mask ∷
    state_tag ∷
    initial_date ∷
    activation_date ∷
    deactivation_date ∷
    destroy_date ∷
    compromise_date ∷
    []

pub short_least : (ts : Trees) (a : Attributes) → SaysAttributes ts a → sizes (short_children a) ≤ sizes ts
short_least ts a s =
    omega (
      arith,
      sizes_rows (forest short_name a.names) (single_rows a),
      sizes_names a.names,
      names_least ts a.names s.names,
      enumerated_least object_type_tag a.object_type ts s.object_type,
      enumerated_least cryptographic_algorithm a.algorithm ts s.algorithm,
      counted_least cryptographic_length a.length ts s.length,
      counted_least cryptographic_usage_mask a.mask ts s.mask,
      enumerated_least state_tag a.state ts s.state,
      dated_least initial_date a.initial ts s.initial,
      dated_least activation_date a.activation ts s.activation,
      dated_least deactivation_date a.deactivation ts s.deactivation,
      dated_least destroy_date a.destroy ts s.destroy,
      dated_least compromise_date a.compromise ts s.compromise,
      totals_within all_tags ts refl,
    )

pub short_shortest : (item : Tree) (a : Attributes) → item ≡ structure attributes_tag (short_children a) → (other : Tree) → SaysWhole other a → size item ≤ size other
short_shortest item a e other s = omega (arith, ap size e, ap size s.1.0, short_least s.0 a s.1.1)

-- ---- levels, and no Big Integer

abbrev SoundRow : Option Scalar → Type 0
SoundRow None = Unit {0}
SoundRow (Some s) = SoundScalar s

abbrev SoundRows : List (ℕ × Option Scalar) → Type 0
SoundRows [] = Unit {0}
SoundRows (row ∷ rows) = SoundRow row.1 × SoundRows rows

depths_push : (ts : Trees) (t : Tree) (k : ℕ) → depths ts ≤ k → depth t ≤ k → depths (push ts t) ≤ k
depths_push none t k h g = omega (arith, g)
depths_push (more u ts) t k h g = omega (arith, h, depths_push ts t k (omega (arith, h)) g)

sound_push : (ts : Trees) (t : Tree) → AllSound ts → Sound t → AllSound (push ts t)
sound_push none t h g = (g, tt)
sound_push (more u ts) t h g = (h.0, sound_push ts t h.1 g)

rows_plain : (ts : Trees) (rows : List (ℕ × Option Scalar)) → depths ts ≤ 2 → AllSound ts → SoundRows rows → (depths (with_scalars ts rows) ≤ 2) × AllSound (with_scalars ts rows)
rows_plain ts [] h g sound = (h, g)
rows_plain ts ((n, None) ∷ rows) h g sound = rows_plain ts rows h g sound.1
rows_plain ts ((n, Some s) ∷ rows) h g sound =
    rows_plain (push ts (scalar n s)) rows (depths_push ts (scalar n s) 2 h (omega arith)) (sound_push ts (scalar n s) g sound.0) sound.1

enumerated_sound : (v : Option ℕ) → SoundRow (enumerated v)
enumerated_sound None = tt
enumerated_sound (Some x) = tt

counted_sound : (v : Option ℤ) → SoundRow (counted v)
counted_sound None = tt
counted_sound (Some x) = tt

dated_sound : (v : Option ℤ) → SoundRow (dated v)
dated_sound None = tt
dated_sound (Some x) = tt

type_plain : (b : Bool) (k : ℕ) → (depths (type_child b k) ≤ 1) × AllSound (type_child b k)
type_plain true k = (omega arith, tt)
type_plain false k = (omega arith, (tt, tt))

names_plain : (names : List NameOf) → (depths (forest short_name names) ≤ 2) × AllSound (forest short_name names)
names_plain [] = (omega arith, tt)
names_plain (n ∷ names) =
    let kind = type_plain (n.kind == 1) n.kind in
    let rest = names_plain names in
    (omega (arith, kind.0, rest.0), ((tt, kind.1), rest.1))

pub short_plain : (a : Attributes) → (depths (short_children a) ≤ 2) × AllSound (short_children a)
short_plain a =
    let names = names_plain a.names in
    rows_plain (forest short_name a.names) (single_rows a) names.0 names.1 (
      enumerated_sound a.object_type,
      (
        enumerated_sound a.algorithm,
        (
          counted_sound a.length,
          (
            counted_sound a.mask,
            (enumerated_sound a.state, (dated_sound a.initial, (dated_sound a.activation, (dated_sound a.deactivation, (dated_sound a.destroy, (dated_sound a.compromise, tt)))))),
          ),
        ),
      ),
    )
