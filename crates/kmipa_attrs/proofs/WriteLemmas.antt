-- What the children that are written say.
use Rattle.std.proofs.Common.{◌≡◌, ◌<◌, ◌+◌, ◌++◌, ◌==◌, ℕ, ℤ, Bool, true, false, cond, List, [], ◌∷◌, map, length, take, get_or, Some, None, Option, refl, sym, ap, ◌∙◌, subst, append_assoc, add-one}
use Rattle.std.proofs.lemmas.Bool.Decides.{Decides-eqb}
use Rattle.std.proofs.lemmas.List.{append-nil, map-append}
use Rattle.std.proofs.Math.Seq.{take-suc}
use Rattle.kmipa_ttlv.specs.Tree.{Tree, Trees, Scalar, structure, scalar, none, more, push, forest}
use Rattle.kmipa_ttlv.specs.Tree
use Rattle.kmipa_ttlv.specs.ItemTree.{tree, trees}
use Rattle.kmipa_ttlv.proofs.StandsLemmas.{forest-push}
use Rattle.kmipa_ttlv.specs.declared.item.Item.{Item}
use Rattle.kmipa_attrs.specs.Tags.{activation_date, compromise_date, cryptographic_algorithm, cryptographic_length, cryptographic_usage_mask, deactivation_date, destroy_date, initial_date, name_tag, name_value, object_type_tag, state_tag, attributes_tag}
use Rattle.kmipa_attrs.specs.Sets.{NameOf, Attributes, name_of}
use Rattle.kmipa_attrs.specs.declared.name.Name.{Name}
use Rattle.kmipa_attrs.specs.Names.{as_name, HasNoRepeats}
use Rattle.kmipa_attrs.specs.Fields.{tag_of, first, every, as_structure, as_text, as_integer, as_enumeration, as_date}
use Rattle.kmipa_attrs.specs.Attributes.{each, Single, SaysAttributes}
use Rattle.kmipa_attrs.specs.Writing.{name_tree, short_name, type_child, short_children, with_scalar, with_scalars, single_rows, written_children, SaysWhole, each_once}
use Rattle.kmipa_attrs.proofs.DistinctLemmas.{distinct-same, distinct-HasNoRepeats}

-- one more at the end
each_push : {A : Type 0} (how : Tree → Option A) (n : ℕ) (ts : Trees) (t : Tree) → each how n (push ts t) ≡ each how n ts ++ cond (tag_of t == n) (how t ∷ []) []
unfolding each every
each_push how n none t = by (tag_of t == n)
  where
    by : (b : Bool) → map how (cond b (t ∷ []) []) ≡ cond b (how t ∷ []) []
    by true = refl
    by false = refl
each_push how n (more u ts) t = by (tag_of u == n) (each_push how n ts t)
  where
    by : (b : Bool) → map how (every n (push ts t)) ≡ map how (every n ts) ++ cond (tag_of t == n) (how t ∷ []) []
        → map how (cond b (u ∷ every n (push ts t)) (every n (push ts t))) ≡ map how (cond b (u ∷ every n ts) (every n ts)) ++ cond (tag_of t == n) (how t ∷ []) []
    by true e = ap (λ us. how u ∷ us) e
    by false e = e

-- what rows of one tag hold
abbrev held_by : {A : Type 0} → (Tree → Option A) → ℕ → Option Scalar → List (Option A)
held_by how n None = []
held_by how n (Some s) = how (scalar n s) ∷ []

abbrev in_rows : {A : Type 0} → (Tree → Option A) → ℕ → List (ℕ × Option Scalar) → List (Option A)
in_rows how n [] = []
in_rows how n (row ∷ rows) = cond (row.0 == n) (held_by how row.0 row.1) [] ++ in_rows how n rows

each_scalar : {A : Type 0} (how : Tree → Option A) (n m : ℕ) (ts : Trees) (v : Option Scalar) → each how n (with_scalar ts m v) ≡ each how n ts ++ cond (m == n) (held_by how m v) []
each_scalar how n m ts None = by (m == n)
  where
    by : (b : Bool) → each how n ts ≡ each how n ts ++ cond b [] []
    by true = sym (append-nil (each how n ts))
    by false = sym (append-nil (each how n ts))
each_scalar how n m ts (Some s) = each_push how n ts (scalar m s)

each_scalars : {A : Type 0} (how : Tree → Option A) (n : ℕ) (ts : Trees) (rows : List (ℕ × Option Scalar)) → each how n (with_scalars ts rows) ≡ each how n ts ++ in_rows how n rows
each_scalars how n ts [] = sym (append-nil (each how n ts))
each_scalars how n ts (row ∷ rows) =
    each_scalars how n (with_scalar ts row.0 row.1) rows
    ∙ ap (λ us. us ++ in_rows how n rows) (each_scalar how n row.0 ts row.1)
    ∙ append_assoc (each how n ts) (cond (row.0 == n) (held_by how row.0 row.1) []) (in_rows how n rows)

-- names hold names alone
as_name-tree : (n : NameOf) → as_name (name_tree n) ≡ Some n
unfolding as_name as_structure first as_text as_enumeration
as_name-tree n = refl

-- names in a form that is a Name, and says them
module _ (form : NameOf → Tree) (tagged : (n : NameOf) → tag_of (form n) ≡ name_tag) (says : (n : NameOf) → as_name (form n) ≡ Some n) where
  each_name : (names : List NameOf) → each as_name name_tag (forest form names) ≡ map Some names
  unfolding each every
  each_name [] = refl
  each_name (n ∷ names) =
      ap (λ (k : ℕ). map as_name (cond (k == name_tag) (form n ∷ every name_tag (forest form names)) (every name_tag (forest form names)))) (tagged n)
      ∙ (λ i. says n i ∷ each_name names i)

  each_of_names : {A : Type 0} (how : Tree → Option A) (n : ℕ) (names : List NameOf) → (name_tag == n) ≡ false → each how n (forest form names) ≡ []
  unfolding each every
  each_of_names how n [] e = refl
  each_of_names how n (m ∷ names) e =
      ap (λ (b : Bool). map how (cond b (form m ∷ every n (forest form names)) (every n (forest form names)))) (ap (λ (k : ℕ). k == n) (tagged m) ∙ e) ∙ each_of_names how n names e

  each_written : {A : Type 0} (how : Tree → Option A) (n : ℕ) (a : Attributes) → (name_tag == n) ≡ false
      → each how n (with_scalars (forest form a.names) (single_rows a)) ≡ in_rows how n (single_rows a)
  each_written how n a e = each_scalars how n (forest form a.names) (single_rows a) ∙ ap (λ us. us ++ in_rows how n (single_rows a)) (each_of_names how n a.names e)

enumerated_said : (n : ℕ) (v : Option ℕ) (held : List (Option ℕ)) → held ≡ held_by as_enumeration n (elim v [ None ↦ None | Some x ↦ Some (Tree.enumeration x) ]) → Single held v
unfolding as_enumeration
enumerated_said n None held e = e
enumerated_said n (Some x) held e = e

counted_said : (n : ℕ) (v : Option ℤ) (held : List (Option ℤ)) → held ≡ held_by as_integer n (elim v [ None ↦ None | Some x ↦ Some (Tree.integer x) ]) → Single held v
unfolding as_integer
counted_said n None held e = e
counted_said n (Some x) held e = e

dated_said : (n : ℕ) (v : Option ℤ) (held : List (Option ℤ)) → held ≡ held_by as_date n (elim v [ None ↦ None | Some x ↦ Some (Tree.date_time x) ]) → Single held v
unfolding as_date
dated_said n None held e = e
dated_said n (Some x) held e = e

formed_said : (form : NameOf → Tree) → ((n : NameOf) → tag_of (form n) ≡ name_tag) → ((n : NameOf) → as_name (form n) ≡ Some n) → (a : Attributes)
    → SaysAttributes (with_scalars (forest form a.names) (single_rows a)) (each_once a)
formed_said form tagged says a = record {
  names = (a.names, (each_scalars as_name name_tag (forest form a.names) (single_rows a) ∙ append-nil _ ∙ each_name form tagged says a.names, refl));
  object_type = enumerated_said object_type_tag a.object_type _ (each_written form tagged says as_enumeration object_type_tag a refl ∙ append-nil _);
  algorithm = enumerated_said cryptographic_algorithm a.algorithm _ (each_written form tagged says as_enumeration cryptographic_algorithm a refl ∙ append-nil _);
  length = counted_said cryptographic_length a.length _ (each_written form tagged says as_integer cryptographic_length a refl ∙ append-nil _);
  mask = counted_said cryptographic_usage_mask a.mask _ (each_written form tagged says as_integer cryptographic_usage_mask a refl ∙ append-nil _);
  state = enumerated_said state_tag a.state _ (each_written form tagged says as_enumeration state_tag a refl ∙ append-nil _);
  initial = dated_said initial_date a.initial _ (each_written form tagged says as_date initial_date a refl ∙ append-nil _);
  activation = dated_said activation_date a.activation _ (each_written form tagged says as_date activation_date a refl ∙ append-nil _);
  deactivation = dated_said deactivation_date a.deactivation _ (each_written form tagged says as_date deactivation_date a refl ∙ append-nil _);
  destroy = dated_said destroy_date a.destroy _ (each_written form tagged says as_date destroy_date a refl ∙ append-nil _);
  compromise = dated_said compromise_date a.compromise _ (each_written form tagged says as_date compromise_date a refl ∙ append-nil _);
}

pub written_said : (a : Attributes) → SaysAttributes (written_children a) (each_once a)
written_said a = formed_said name_tree (λ n. refl) as_name-tree a

-- a name that is written short
short_read : (v : List ℕ) (k : ℕ) (b : Bool) → (k == 1) ≡ b → as_name (structure name_tag (more (scalar name_value (Tree.text v)) (type_child b k))) ≡ Some (record { value = v; kind = k })
unfolding as_name as_structure first as_text as_enumeration
short_read v k true e = ap (λ (n : ℕ). Some (record { value = v; kind = n })) (sym ((Decides-eqb k 1).0 e))
short_read v k false e = refl

as_name-short : (n : NameOf) → as_name (short_name n) ≡ Some n
as_name-short n = short_read n.value n.kind (n.kind == 1) refl

pub short_said : (a : Attributes) → SaysAttributes (short_children a) (each_once a)
short_said a = formed_said short_name (λ n. refl) as_name-short a

-- a set that children say has no repeats
pub said-HasNoRepeats : (ts : Trees) (a : Attributes) → SaysAttributes ts a → HasNoRepeats a.names
said-HasNoRepeats ts a h = let P : List NameOf → Type 0 = HasNoRepeats in subst P (sym h.names.1.1) (distinct-HasNoRepeats h.names.0)

-- a set without repeats is itself with each name once
pub once-same : (a : Attributes) → HasNoRepeats a.names → each_once a ≡ a
once-same a h = λ i. record a { names = distinct-same a.names h i }

pub says_once : (t : Tree) (a : Attributes) → t ≡ structure attributes_tag (written_children a) → SaysWhole t (each_once a)
says_once t a e = (written_children a, (e, written_said a))

pub says_exact : (t : Tree) (a : Attributes) → t ≡ structure attributes_tag (written_children a) → HasNoRepeats a.names → SaysWhole t a
says_exact t a e h = let P : Attributes → Type 0 = SaysWhole t in subst P (once-same a h) (says_once t a e)

pub short_exact : (t : Tree) (a : Attributes) → t ≡ structure attributes_tag (short_children a) → HasNoRepeats a.names → SaysWhole t a
short_exact t a e h = let P : Attributes → Type 0 = SaysWhole t in subst P (once-same a h) (short_children a, (e, short_said a))

-- one more name is written
pub names_written : (form : NameOf → Tree) (i : ℕ) (names : List Name) (n : Name) (items : List Item) (item : Item) → i < length names → n ≡ get_or names i n → tree item ≡ form (name_of n)
    → trees items ≡ forest form (map name_of (take i names)) → trees (items ++ item ∷ []) ≡ forest form (map name_of (take (i + 1) names))
names_written form i names n items item lt is e h =
    let firsts = map name_of (take i names) in
    forest-push tree items item
    ∙ (λ j. push (h j) (e j))
    ∙ sym (forest-push form firsts (name_of n))
    ∙ ap (forest form) (sym (
    ap (λ k. map name_of (take k names)) (add-one i)
    ∙ ap (map name_of) (take-suc names i n lt)
    ∙ map-append name_of (take i names) (get_or names i n ∷ [])
    ∙ ap (λ m. firsts ++ name_of m ∷ []) (sym is)))

-- one more attribute is written
pub put_one : (tag : ℕ) (items : List Item) (item : Item) (v : Option Scalar) (s : Scalar) → tree item ≡ scalar tag s → v ≡ Some s → trees (items ++ item ∷ []) ≡ with_scalar (trees items) tag v
put_one tag items item v s e is = forest-push tree items item ∙ ap (push (trees items)) e ∙ ap (with_scalar (trees items) tag) (sym is)
