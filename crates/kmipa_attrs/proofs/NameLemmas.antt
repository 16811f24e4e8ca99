-- Names: when two are the same, and lists in which each stands once.
use Rattle.std.proofs.Common.{◌≡◌, ◌&&◌, ◌||◌, ℕ, Bool, true, false, ◌==◌, not, cond, List, [], ◌∷◌, ◌++◌, map, Some, None, Option, Result, Ok, Err, refl, sym, ap, ◌∙◌, append_assoc, string_bytes}
use Rattle.std.proofs.lemmas.List.{append-nil}
use Rattle.std.proofs.lemmas.List.Folds.{list_any-append}
use Rattle.std.proofs.lemmas.Bool.Decides.{Decides-eqb}
use Rattle.std.proofs.lemmas.Slice.Eq.{bytes_eq-Decides}
use Rattle.std.specs.List.{filter, list_any}
use Rattle.std.specs.Str.{bytes_eq}
use Rattle.kmipa_ttlv.specs.Tree.{Tree, Trees}
use Rattle.kmipa_attrs.specs.Tags.{name_type, name_value}
use Rattle.kmipa_attrs.specs.Sets.{NameOf, name_of, names_of}
use Rattle.kmipa_attrs.specs.Fields.{as_structure, as_text, as_enumeration, at, map_field}
use Rattle.kmipa_attrs.specs.Readings.{map_ok}
use Rattle.kmipa_attrs.specs.Attributes.{Gives, named, all_named}
use Rattle.kmipa_attrs.specs.declared.fields.Field.{Field}
use Rattle.kmipa_attrs.specs.declared.fields.Field.TheVariants.{Absent, Wrong, There}
use Rattle.kmipa_attrs.specs.declared.fault.AttrFault.{AttrFault}
use Rattle.kmipa_attrs.specs.declared.fault.AttrFault.TheVariants.{WrongType, Repeated, NotForClients, Memory}
use denote.Bor.{Bor}
use Rattle.kmipa_attrs.specs.Names.{as_name, name_from, name_inside, same_name, without, distinct, with_name, with_names}
use Rattle.kmipa_attrs.specs.declared.name.Name.{Name}
use Rattle.kmipa_attrs.specs.declared.names.LentName.{LentName}
use Rattle.std.specs.declared.cmp.Ordering.{Ordering}
use Rattle.std.specs.Bool.{OnFalse}
use Rattle.std.specs.Ordering.{is_eq, nat_cmp, ordering_then}
use Rattle.std.specs.Cmp.{both_tied, unsigned_ties}
use Rattle.std.specs.Cmp.Lexicographic.{slice_cmp}
use Rattle.std.specs.BTreeMap.{is_at}
use Rattle.std.specs.BTreeSet.{BTreeSet, contains}
use Rattle.std.proofs.lemmas.Map.Text.{is_eq-slice_cmp}

both_true : (b c : Bool) → (b && c) ≡ true → (b ≡ true) × (c ≡ true)
both_true true true e = (refl, refl)
both_true true false e = cc
both_true false c e = cc

pub same_name-true : (m n : NameOf) → same_name m n ≡ true → m ≡ n
same_name-true m n e =
    let w = both_true (bytes_eq m.value n.value) (m.kind == n.kind) e in
    let p : m.value ≡ n.value = (bytes_eq-Decides m.value n.value).0 w.0 in
    let q : m.kind ≡ n.kind = (Decides-eqb m.kind n.kind).0 w.1 in
    λ i. record { value = p i; kind = q i }

pub same_name-self : (n : NameOf) → same_name n n ≡ true
same_name-self n = ap (λ (b : Bool). b && (n.kind == n.kind)) ((bytes_eq-Decides n.value n.value).1 refl) ∙ (Decides-eqb n.kind n.kind).1 refl

pub same_name-symm : (m n : NameOf) → same_name m n ≡ same_name n m
same_name-symm m n = by (same_name m n) (same_name n m) refl refl
  where
    by : (b c : Bool) → same_name m n ≡ b → same_name n m ≡ c → same_name m n ≡ same_name n m
    by true c e g = ap (λ (k : NameOf). same_name k n) (same_name-true m n e) ∙ sym (ap (λ (k : NameOf). same_name n k) (same_name-true m n e))
    by false true e g = ap (λ (k : NameOf). same_name m k) (same_name-true n m g) ∙ sym (ap (λ (k : NameOf). same_name k m) (same_name-true n m g))
    by false false e g = e ∙ sym g

-- the name is among those seen
abbrev pub has : List NameOf → NameOf → Bool
has seen n = list_any (λ m. same_name m n) seen

abbrev fresh : List NameOf → List NameOf → List NameOf
fresh seen names = filter (λ m. not (has seen m)) names

fresh_without : (seen : List NameOf) (n : NameOf) → has seen n ≡ true → (names : List NameOf) → fresh seen (without n names) ≡ fresh seen names
fresh_without seen n h [] = refl
fresh_without seen n h (x ∷ names) = by (same_name x n) refl (fresh_without seen n h names)
  where
    by : (b : Bool) → same_name x n ≡ b → fresh seen (without n names) ≡ fresh seen names → fresh seen (cond (not b) (x ∷ without n names) (without n names)) ≡ cond (not (has seen x)) (x ∷ fresh seen names) (fresh seen names)
    by true e r = r ∙ sym (ap (λ (b : Bool). cond (not b) (x ∷ fresh seen names) (fresh seen names)) (ap (has seen) (same_name-true x n e) ∙ h))
    by false e r = ap (λ us. cond (not (has seen x)) (x ∷ us) us) r

has_pushed : (seen : List NameOf) (n x : NameOf) → has (seen ++ n ∷ []) x ≡ (has seen x || (same_name x n || false))
has_pushed seen n x = list_any-append (λ m. same_name m x) seen (n ∷ []) ∙ ap (λ (b : Bool). has seen x || (b || false)) (same_name-symm n x)

fresh_pushed : (seen : List NameOf) (n : NameOf) (names : List NameOf) → fresh (seen ++ n ∷ []) names ≡ fresh seen (without n names)
fresh_pushed seen n [] = refl
fresh_pushed seen n (x ∷ names) =
    ap (λ (b : Bool). cond (not b) (x ∷ fresh (seen ++ n ∷ []) names) (fresh (seen ++ n ∷ []) names)) (has_pushed seen n x)
    ∙ ap (λ us. cond (not (has seen x || (same_name x n || false))) (x ∷ us) us) (fresh_pushed seen n names)
    ∙ by (has seen x) (same_name x n) refl
  where
    by : (b c : Bool) → has seen x ≡ b → cond (not (b || (c || false))) (x ∷ fresh seen (without n names)) (fresh seen (without n names)) ≡ fresh seen (cond (not c) (x ∷ without n names) (without n names))
    by true true e = refl
    by true false e = sym (ap (λ (b : Bool). cond (not b) (x ∷ fresh seen (without n names)) (fresh seen (without n names))) e)
    by false true e = refl
    by false false e = sym (ap (λ (b : Bool). cond (not b) (x ∷ fresh seen (without n names)) (fresh seen (without n names))) e)

with_names-fresh : (seen names : List NameOf) → with_names seen names ≡ seen ++ fresh seen (distinct names)
unfolding distinct
with_names-fresh seen [] = sym (append-nil seen)
with_names-fresh seen (n ∷ names) = by (λ us. with_names-fresh us names) (has seen n) refl
  where
    by : ((us : List NameOf) → with_names us names ≡ us ++ fresh us (distinct names)) → (b : Bool) → has seen n ≡ b → with_names (cond b seen (seen ++ n ∷ [])) names ≡ seen ++ cond (not (has seen n)) (n ∷ fresh seen (without n (distinct names))) (fresh seen (without n (distinct names)))
    by all true e =
        all seen
        ∙ ap (λ us. seen ++ us) (sym (fresh_without seen n e (distinct names)))
        ∙ ap (λ (b : Bool). seen ++ cond (not b) (n ∷ fresh seen (without n (distinct names))) (fresh seen (without n (distinct names)))) (sym e)
    by all false e =
        all (seen ++ n ∷ [])
        ∙ ap (λ us. (seen ++ n ∷ []) ++ us) (fresh_pushed seen n (distinct names))
        ∙ append_assoc seen (n ∷ []) (fresh seen (without n (distinct names)))
        ∙ ap (λ (b : Bool). seen ++ cond (not b) (n ∷ fresh seen (without n (distinct names))) (fresh seen (without n (distinct names)))) (sym e)

fresh_all : (names : List NameOf) → fresh [] names ≡ names
fresh_all [] = refl
fresh_all (n ∷ names) = ap (λ us. n ∷ us) (fresh_all names)

pub with_names-distinct : (names : List NameOf) → with_names [] names ≡ distinct names
with_names-distinct names = with_names-fresh [] names ∙ fresh_all (distinct names)

-- the program's test of names
pub has_of : (names : List Name) (n : Name) → list_any (λ y. bytes_eq (string_bytes y.value) (string_bytes n.value) && (y.kind == n.kind)) names ≡ has (map name_of names) (name_of n)
has_of [] n = refl
has_of (m ∷ names) n = ap (λ (b : Bool). same_name (name_of m) (name_of n) || b) (has_of names n)

-- names that are lent, and a set of them in their order
abbrev pub lent_name_of : LentName → NameOf
lent_name_of n = record { value = n.value.now; kind = n.kind }

abbrev pub lent_cmp : LentName → LentName → Ordering
lent_cmp m n = ordering_then (slice_cmp nat_cmp m.value.now n.value.now) (nat_cmp m.kind n.kind)

lent_tied : (m n : LentName) → same_name (lent_name_of m) (lent_name_of n) ≡ is_eq (lent_cmp m n)
lent_tied m n =
    both_tied (bytes_eq m.value.now n.value.now) (m.kind == n.kind) (slice_cmp nat_cmp m.value.now n.value.now) (nat_cmp m.kind n.kind)
    (sym (is_eq-slice_cmp m.value.now n.value.now)) (unsigned_ties m.kind n.kind)

-- the set has exactly the names seen
abbrev pub Tracks : List NameOf → BTreeSet LentName → Type 0
Tracks names s = (n : LentName) → contains lent_cmp s n ≡ has names (lent_name_of n)

pub tracks_none : (names : List NameOf) (s : BTreeSet LentName) → names ≡ [] → s.keys ≡ [] → Tracks names s
tracks_none names s e k n = ap (list_any (is_at (lent_cmp n))) k ∙ sym (ap (λ us. has us (lent_name_of n)) e)

pub tracks_same : (names : List NameOf) (s t : BTreeSet LentName) (added : Bool) → OnFalse added (t.keys ≡ s.keys) → added ≡ false → Tracks names s → Tracks names t
tracks_same names s t true u e = cc
tracks_same names s t false u e = λ h n. ap (list_any (is_at (lent_cmp n))) u ∙ h n

pub tracks_more : (names : List NameOf) (k : LentName) (s t : BTreeSet LentName) → ((n : LentName) → contains lent_cmp t n ≡ cond (is_at (lent_cmp k) n) true (contains lent_cmp s n))
    → Tracks names s → Tracks (names ++ lent_name_of k ∷ []) t
tracks_more names k s t u h n =
    u n
    ∙ (λ i. cond (is_k i) true (h n i))
    ∙ either (same_name (lent_name_of n) (lent_name_of k)) (has names (lent_name_of n))
    ∙ sym (has_pushed names (lent_name_of k) (lent_name_of n))
  where
    is_k : is_eq (lent_cmp k n) ≡ same_name (lent_name_of n) (lent_name_of k)
    is_k = sym (lent_tied k n) ∙ same_name-symm (lent_name_of k) (lent_name_of n)

    either : (b c : Bool) → cond b true c ≡ (c || (b || false))
    either true true = refl
    either true false = refl
    either false true = refl
    either false false = refl

-- what an insertion says of the names seen
pub was_unseen : (seen : List NameOf) (k : LentName) (s : BTreeSet LentName) (added : Bool) → Tracks seen s → added ≡ not (contains lent_cmp s k) → added ≡ true → has seen (lent_name_of k) ≡ false
was_unseen seen k s added h a e = by (has seen (lent_name_of k)) (sym e ∙ a ∙ ap not (h k))
  where
    by : (b : Bool) → true ≡ not b → b ≡ false
    by true e = cc
    by false e = refl

pub was_seen : (seen : List NameOf) (k : LentName) (s : BTreeSet LentName) (added : Bool) → Tracks seen s → added ≡ not (contains lent_cmp s k) → added ≡ false → has seen (lent_name_of k) ≡ true
was_seen seen k s added h a e = by (has seen (lent_name_of k)) (sym e ∙ a ∙ ap not (h k))
  where
    by : (b : Bool) → false ≡ not b → b ≡ true
    by true e = refl
    by false e = cc

-- the name of a tree, by its fields
pub as_name-none : (t : Tree) → None ≡ as_structure t → as_name t ≡ None
unfolding as_name
as_name-none t e = ap name_inside (sym e)

pub as_name-some : (t : Tree) (ts : Trees) → Some ts ≡ as_structure t → as_name t ≡ name_from (at as_text name_value ts) (at as_enumeration name_type ts)
unfolding as_name
as_name-some t ts e = ap name_inside (sym e)

-- what is read of a name whose value isn't there
pub no_value : (f : Field (Bor (List ℕ))) (g : Field (List ℕ)) (k : Field ℕ) → ((x : Bor (List ℕ)) → f ≡ There x → ⊥) → map_field (λ s. s.now) f ≡ g → name_from g k ≡ None
no_value Absent g k h e = ap (λ u. name_from u k) (sym e)
no_value Wrong g k h e = ap (λ u. name_from u k) (sym e)
no_value (There x) g k h e = absurd (h x refl)

-- names read one after the other
pub named_some : (o : Option NameOf) (n : NameOf) → named o ≡ Ok n → o ≡ Some n
named_some None n e = cc
named_some (Some m) n e = cc

pub names_begin : (held : List (Option NameOf)) (seen : List NameOf) → seen ≡ [] → map_ok distinct (all_named held) ≡ map_ok (with_names seen) (all_named held)
names_begin held seen e = by (all_named held) ∙ ap (λ us. map_ok (with_names us) (all_named held)) (sym e)
  where
    by : (r : Result (List NameOf) AttrFault) → map_ok distinct r ≡ map_ok (with_names []) r
    by (Ok x) = ap Ok (sym (with_names-distinct x))
    by (Err k) = refl

pub names_more : (seen next : List NameOf) (o : Option NameOf) (n : NameOf) (held : List (Option NameOf)) → o ≡ Some n → next ≡ with_name seen n
    → map_ok (with_names seen) (all_named (o ∷ held)) ≡ map_ok (with_names next) (all_named held)
names_more seen next o n held e is =
    ap (λ u. map_ok (with_names seen) (all_named (u ∷ held))) e ∙ by (all_named held) ∙ ap (λ us. map_ok (with_names us) (all_named held)) (sym is)
  where
    by : (r : Result (List NameOf) AttrFault) → map_ok (with_names seen) (map_ok (λ names. n ∷ names) r) ≡ map_ok (with_names (with_name seen n)) r
    by (Ok x) = refl
    by (Err k) = refl

pub names_wrong : {A : Type 0} (view : A → NameOf) (seen : List NameOf) (o : Option NameOf) (held : List (Option NameOf)) (whole : Result (List NameOf) AttrFault) (f : AttrFault)
    → Gives view (Err f) (named o) → whole ≡ map_ok (with_names seen) (all_named (o ∷ held)) → Gives names_of (Err f) whole
names_wrong view seen None held whole WrongType h e = e
names_wrong view seen None held whole Repeated h e = cc
names_wrong view seen None held whole NotForClients h e = cc
names_wrong view seen (Some n) held whole WrongType h e = cc
names_wrong view seen (Some n) held whole Repeated h e = cc
names_wrong view seen (Some n) held whole NotForClients h e = cc
names_wrong view seen o held whole Memory h e = tt
