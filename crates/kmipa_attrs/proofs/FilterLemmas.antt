-- What is read of a filter is what is said, or the lowest fault.
use Rattle.std.proofs.Common.{◌≡◌, ◌≤◌, ℕ, ℤ, Bool, true, false, nat_lt, ◌==◌, ◌||◌, cond, slice_get, List, [], ◌∷◌, map, length, Some, None, Option, Result, Ok, Err, refl, sym, ap, ◌∙◌, subst, arith, inl, inr}
use Rattle.std.proofs.lemmas.Bool.{lt-ltb}
use Rattle.std.proofs.lemmas.List.{length-map}
use Rattle.kmipa_ttlv.specs.Tree.{Tree, Trees, structure, scalar, none, more}
use Rattle.kmipa_ttlv.specs.ViewTree.{view_tree}
use Rattle.kmipa_ttlv.proofs.ViewTreeLemmas.{tag_of-view}
use Rattle.kmipa_ttlv.specs.declared.view.View.{View}
use Rattle.kmipa_attrs.specs.Tags.{activation_date, compromise_date, cryptographic_algorithm, cryptographic_length, cryptographic_usage_mask, deactivation_date, destroy_date, initial_date, object_type_tag, state_tag}
use Rattle.kmipa_attrs.specs.Sets.{NameOf}
use Rattle.kmipa_attrs.specs.Fields.{tag_of, first, every, at, typed, value_in, as_structure, as_integer, as_enumeration, as_date}
use Rattle.kmipa_attrs.specs.Readings.{Reads, Lowest, both, map_ok}
use Rattle.kmipa_attrs.specs.Attributes.{attr_number, each, Single, SingleFault, TypeFault, Gives, folded, names_in}
use Rattle.kmipa_attrs.specs.Filters.{FilterOf, filter_of, SaysFirst, AreTyped, is_other, has_other, is_repeated, maximum_of, is_loosened, some_second, SaysFilter, FilterFault, WantedFault, ReadsFilter, GivesFilter, kept_first, first_of, types_of, Judged, Types, judged_in, types_in, filter_rows, filter_at, filter_in}
use Rattle.kmipa_attrs.specs.Filters.FilterFault.{in_names, in_object_type, in_state, in_algorithm, in_length, in_mask, in_initial, in_activation, in_deactivation, in_destroy, in_compromise}
use Rattle.kmipa_attrs.specs.declared.fault.AttrFault.{AttrFault}
use Rattle.kmipa_attrs.specs.declared.fault.AttrFault.TheVariants.{WrongType, Repeated, NotForClients, Memory}
use Rattle.kmipa_attrs.specs.declared.filter.Filter.{Filter}
use Rattle.kmipa_attrs.proofs.ReadingLemmas.{reads_both, reads_as}
use Rattle.kmipa_attrs.proofs.AttrLemmas.{below_wrong, reads_single, reads_names, wrong_first, with_first}

-- the value of the first one
abbrev head : {A : Type 0} → List (Option A) → Option A
head [] = None
head (x ∷ held) = x

abbrev are_two : {A : Type 0} → List A → Bool
are_two held = nat_lt 1 (length held)

first_is : {A : Type 0} (held : List (Option A)) (x : Option A) → SaysFirst held x → x ≡ head held
first_is {A} held x s = s.1.1 ∙ by s.0 ∙ ap head (sym s.1.0)
  where
    by : (said : List A) → slice_get said 0 ≡ head (map Some said)
    by [] = refl
    by (y ∷ said) = refl

all_some : {A : Type 0} (held : List (Option A)) → AreTyped held → (said : List A) × (held ≡ map Some said)
all_some [] h = ([], refl)
all_some (None ∷ held) h = absurd (h tt)
all_some (Some x ∷ held) h = let w = all_some held h in (x ∷ w.0, ap (λ us. Some x ∷ us) w.1)

first_says : {A : Type 0} (held : List (Option A)) (x : Option A) → AreTyped held → x ≡ head held → SaysFirst held x
first_says {A} held x h e = let w = all_some held h in (w.0, (w.1, e ∙ ap head w.1 ∙ by w.0))
  where
    by : (said : List A) → head (map Some said) ≡ slice_get said 0
    by [] = refl
    by (y ∷ said) = refl

no_type : {A : Type 0} (held : List (Option A)) → AreTyped held → (k : AttrFault) → TypeFault held k → ⊥
no_type held h WrongType f = h f
no_type held h Repeated f = f
no_type held h NotForClients f = f
no_type held h Memory f = f

-- the first value and whether there is a second, where each is of its type
abbrev SaysKept : {A : Type 0} → List (Option A) → Option A × Bool → Type 0
SaysKept held p = SaysFirst held p.0 × (p.1 ≡ are_two held)

kept : {A : Type 0} (held : List (Option A)) (x : Option A) (b : Bool) → AreTyped held → x ≡ head held → b ≡ are_two held → Reads attr_number (SaysKept held) (TypeFault held) (Ok (x, b))
kept {A} held x b h e is = record { said = (first_says held x h e, is); only = only; right = no_type held h }
  where
    only : (y : Option A × Bool) → SaysKept held y → y ≡ (x, b)
    only y s = λ i. ((first_is held y.0 s.0 ∙ sym e) i, (s.1 ∙ sym is) i)

two : {A : Type 0} (held : List (Option A)) → 2 ≤ length held → true ≡ are_two held
two held h = sym (lt-ltb 1 (length held) (omega arith))

reads_kept : {A : Type 0} (held : List (Option A)) (x : Option A) → x ≡ head held → Reads attr_number (SaysKept held) (TypeFault held) (kept_first (folded (Ok None) held) x)
reads_kept {A} held x e = by (folded (Ok None) held) (reads_single held)
  where
    by : (r : Result (Option A) AttrFault) → Reads attr_number (Single held) (SingleFault held) r → Reads attr_number (SaysKept held) (TypeFault held) (kept_first r x)
    by (Ok None) h = kept held None false (λ w. h.right WrongType w) (ap head (sym h.said)) (ap are_two (sym h.said))
    by (Ok (Some y)) h = kept held (Some y) false (λ w. h.right WrongType w) (ap head (sym h.said)) (ap are_two (sym h.said))
    by (Err WrongType) h = record { here = h.here; least = λ j lt f. below_wrong j lt }
    by (Err Repeated) h = kept held x true (λ w. h.least WrongType (omega arith) w) e (two held h.here)
    by (Err NotForClients) h = absurd h.here
    by (Err Memory) h = absurd h.here

-- the first child with a tag is the first of those with it
first_value : {A : Type 0} (how : Tree → Option A) (tag : ℕ) (ts : Trees) → value_in (at how tag ts) ≡ head (each how tag ts)
unfolding first each every
first_value how tag none = refl
first_value how tag (more t ts) = by (tag_of t == tag) (how t) refl (first_value how tag ts)
  where
    by : (b : Bool) (x : Option _) → how t ≡ x → value_in (typed how (first tag ts)) ≡ head (map how (every tag ts))
        → value_in (typed how (cond b (Some t) (first tag ts))) ≡ head (map how (cond b (t ∷ every tag ts) (every tag ts)))
    by true None e h = cc
    by true (Some x) e h = cc
    by false x e h = h

abbrev SaysOne : {A : Type 0} → (Tree → Option A) → ℕ → Trees → Option A × Bool → Type 0
SaysOne how tag ts p = SaysFirst (each how tag ts) p.0 × (p.1 ≡ is_repeated tag ts)

reads_first_of : {A : Type 0} (how : Tree → Option A) (tag : ℕ) (ts : Trees) → Reads attr_number (SaysOne how tag ts) (TypeFault (each how tag ts)) (first_of how tag ts)
unfolding first_of each
reads_first_of {A} how tag ts = by (kept_first (folded (Ok None) (each how tag ts)) (value_in (at how tag ts))) (reads_kept (each how tag ts) (value_in (at how tag ts)) (first_value how tag ts))
  where
    same : are_two (each how tag ts) ≡ is_repeated tag ts
    same = ap (nat_lt 1) (length-map (every tag ts) how)

    by : (r : Result (Option A × Bool) AttrFault) → Reads attr_number (SaysKept (each how tag ts)) (TypeFault (each how tag ts)) r → Reads attr_number (SaysOne how tag ts) (TypeFault (each how tag ts)) r
    by (Ok p) h = record { said = (h.said.0, h.said.1 ∙ same); only = λ y s. h.only y (s.0, s.1 ∙ sym same); right = h.right }
    by (Err k) h = record { here = h.here; least = h.least }

reads_types_of : {A : Type 0} (how : Tree → Option A) (tag : ℕ) (ts : Trees) → Reads attr_number (λ (u : Unit {0}). AreTyped (each how tag ts)) (TypeFault (each how tag ts)) (types_of how tag ts)
unfolding types_of
reads_types_of {A} how tag ts = by (first_of how tag ts) (reads_first_of how tag ts)
  where
    by : (r : Result (Option A × Bool) AttrFault) → Reads attr_number (SaysOne how tag ts) (TypeFault (each how tag ts)) r
        → Reads attr_number (λ (u : Unit {0}). AreTyped (each how tag ts)) (TypeFault (each how tag ts)) (map_ok (λ p. tt) r)
    by (Ok p) h = record { said = λ w. h.right WrongType w; only = λ y t. refl; right = h.right }
    by (Err k) h = record { here = h.here; least = h.least }

-- the filter is read
pub reads_filter : (most : Option ℤ) (is_unknown : Bool) (ts : Trees) → Reads attr_number (SaysFilter ts most is_unknown) (FilterFault ts) (filter_in most is_unknown ts)
unfolding filter_in
reads_filter most is_unknown ts =
    let rows =
    reads_both attr_number _ _ _ _ _ _ (reads_names ts)
    (reads_both attr_number _ _ _ _ _ _
    (reads_both attr_number _ _ _ _ _ _
    (reads_both attr_number _ _ _ _ _ _ (reads_first_of as_enumeration object_type_tag ts) (reads_first_of as_enumeration state_tag ts))
    (reads_both attr_number _ _ _ _ _ _ (reads_first_of as_enumeration cryptographic_algorithm ts) (reads_first_of as_integer cryptographic_length ts)))
    (reads_both attr_number _ _ _ _ _ _
    (reads_both attr_number _ _ _ _ _ _ (reads_types_of as_integer cryptographic_usage_mask ts) (reads_types_of as_date initial_date ts))
    (reads_both attr_number _ _ _ _ _ _
    (reads_both attr_number _ _ _ _ _ _ (reads_types_of as_date activation_date ts) (reads_types_of as_date deactivation_date ts))
    (reads_both attr_number _ _ _ _ _ _ (reads_types_of as_date destroy_date ts) (reads_types_of as_date compromise_date ts))))) in
    reads_as attr_number _ _ (SaysFilter ts most is_unknown) (FilterFault ts) (filter_at most (is_loosened most is_unknown ts)) (filter_rows ts)
    (λ p s. record {
      names = s.0;
      object_type = s.1.0.0.0.0;
      state = s.1.0.0.1.0;
      algorithm = s.1.0.1.0.0;
      length = s.1.0.1.1.0;
      mask = s.1.1.0.0;
      initial = s.1.1.0.1;
      activation = s.1.1.1.0.0;
      deactivation = s.1.1.1.0.1;
      destroy = s.1.1.1.1.0;
      compromise = s.1.1.1.1.1;
      maximum = refl;
      loose = λ i. is_loosened most is_unknown ts || (s.1.0.0.0.1 i || s.1.0.0.1.1 i || s.1.0.1.0.1 i || s.1.0.1.1.1 i);
    })
    (λ y t. (
      (y.names, ((((y.object_type, is_repeated object_type_tag ts), (y.state, is_repeated state_tag ts)), ((y.algorithm, is_repeated cryptographic_algorithm ts), (y.length, is_repeated cryptographic_length ts))), ((tt, tt), ((tt, tt), (tt, tt))))),
      (t.names, ((((t.object_type, refl), (t.state, refl)), ((t.algorithm, refl), (t.length, refl))), ((t.mask, t.initial), ((t.activation, t.deactivation), (t.destroy, t.compromise))))),
      λ i. record y { maximum = t.maximum i; is_loose = t.loose i },
    ))
    (λ k f. elim f [
      | inl w ↦ in_names w
      | inr g ↦ elim g [
        | inl h ↦ elim h [
          | inl u ↦ elim u [ inl w ↦ in_object_type w | inr w ↦ in_state w ]
          | inr u ↦ elim u [ inl w ↦ in_algorithm w | inr w ↦ in_length w ]
        ]
        | inr h ↦ elim h [
          | inl u ↦ elim u [ inl w ↦ in_mask w | inr w ↦ in_initial w ]
          | inr u ↦ elim u [
            | inl v ↦ elim v [ inl w ↦ in_activation w | inr w ↦ in_deactivation w ]
            | inr v ↦ elim v [ inl w ↦ in_destroy w | inr w ↦ in_compromise w ]
          ]
        ]
      ]
    ])
    (λ k f. elim f [
      | in_names w ↦ inl w
      | in_object_type w ↦ inr (inl (inl (inl w)))
      | in_state w ↦ inr (inl (inl (inr w)))
      | in_algorithm w ↦ inr (inl (inr (inl w)))
      | in_length w ↦ inr (inl (inr (inr w)))
      | in_mask w ↦ inr (inr (inl (inl w)))
      | in_initial w ↦ inr (inr (inl (inr w)))
      | in_activation w ↦ inr (inr (inr (inl (inl w))))
      | in_deactivation w ↦ inr (inr (inr (inl (inr w))))
      | in_destroy w ↦ inr (inr (inr (inr (inl w))))
      | in_compromise w ↦ inr (inr (inr (inr (inr w))))
    ])
    rows

-- the reading of an item, by that of its children
reads_children : (most : Option ℤ) (is_unknown : Bool) (ts : Trees) (r : Result FilterOf AttrFault) → filter_in most is_unknown ts ≡ r → Reads attr_number (SaysFilter ts most is_unknown) (FilterFault ts) r
reads_children most is_unknown ts r is = let Q : Result FilterOf AttrFault → Type 0 = Reads attr_number (SaysFilter ts most is_unknown) (FilterFault ts) in subst Q is (reads_filter most is_unknown ts)

pub reads_wanted : (most : Option ℤ) (is_unknown : Bool) (t : Tree) (ts : Trees) (result : Result Filter AttrFault) → Some ts ≡ as_structure t → GivesFilter result (filter_in most is_unknown ts) → ReadsFilter (Some t) most is_unknown result
unfolding as_structure
reads_wanted most is_unknown (structure n us) ts result e h =
    let same : ts ≡ us = cc in
    let P : Trees → Type 0 = λ vs. GivesFilter result (filter_in most is_unknown vs) in
    by result (subst P same h)
  where
    by : (r : Result Filter AttrFault) → GivesFilter r (filter_in most is_unknown us) → ReadsFilter (Some (structure n us)) most is_unknown r
    by (Ok f) g = reads_children most is_unknown us (Ok (filter_of f)) g
    by (Err WrongType) g = reads_children most is_unknown us (Err WrongType) g
    by (Err Repeated) g = reads_children most is_unknown us (Err Repeated) g
    by (Err NotForClients) g = reads_children most is_unknown us (Err NotForClients) g
    by (Err Memory) g = tt
reads_wanted most is_unknown (scalar n s) ts result e h = cc

-- there is nothing wrong with no children
empty_right : (k : AttrFault) → FilterFault none k → ⊥
unfolding each every
empty_right WrongType f = elim f [ in_names w ↦ w | in_object_type w ↦ w | in_state w ↦ w | in_algorithm w ↦ w | in_length w ↦ w | in_mask w ↦ w | in_initial w ↦ w | in_activation w ↦ w | in_deactivation w ↦ w | in_destroy w ↦ w | in_compromise w ↦ w ]
empty_right Repeated f = elim f [ in_names w ↦ w | in_object_type w ↦ w | in_state w ↦ w | in_algorithm w ↦ w | in_length w ↦ w | in_mask w ↦ w | in_initial w ↦ w | in_activation w ↦ w | in_deactivation w ↦ w | in_destroy w ↦ w | in_compromise w ↦ w ]
empty_right NotForClients f = elim f [ in_names w ↦ w | in_object_type w ↦ w | in_state w ↦ w | in_algorithm w ↦ w | in_length w ↦ w | in_mask w ↦ w | in_initial w ↦ w | in_activation w ↦ w | in_deactivation w ↦ w | in_destroy w ↦ w | in_compromise w ↦ w ]
empty_right Memory f = elim f [ in_names w ↦ w | in_object_type w ↦ w | in_state w ↦ w | in_algorithm w ↦ w | in_length w ↦ w | in_mask w ↦ w | in_initial w ↦ w | in_activation w ↦ w | in_deactivation w ↦ w | in_destroy w ↦ w | in_compromise w ↦ w ]

reads_nothing : (most : Option ℤ) (is_unknown : Bool) (result : Result Filter AttrFault) → GivesFilter result (filter_in most is_unknown none) → ReadsFilter None most is_unknown result
reads_nothing most is_unknown (Ok f) g = let h = reads_children most is_unknown none (Ok (filter_of f)) g in record { said = h.said; only = h.only; right = λ k w. w }
reads_nothing most is_unknown (Err WrongType) g = let h = reads_children most is_unknown none (Err WrongType) g in absurd (empty_right WrongType h.here)
reads_nothing most is_unknown (Err Repeated) g = let h = reads_children most is_unknown none (Err Repeated) g in absurd (empty_right Repeated h.here)
reads_nothing most is_unknown (Err NotForClients) g = let h = reads_children most is_unknown none (Err NotForClients) g in absurd (empty_right NotForClients h.here)
reads_nothing most is_unknown (Err Memory) g = tt

pub absent_filter : (o : Option Tree) (most : Option ℤ) (is_unknown : Bool) (result : Result Filter AttrFault) → o ≡ None → GivesFilter result (filter_in most is_unknown none) → ReadsFilter o most is_unknown result
absent_filter None most is_unknown result e g = reads_nothing most is_unknown result g
absent_filter (Some t) most is_unknown result e g = cc

pub present_filter : (o : Option Tree) (t : Tree) (most : Option ℤ) (is_unknown : Bool) (result : Result Filter AttrFault) → o ≡ Some t → ReadsFilter (Some t) most is_unknown result → ReadsFilter o most is_unknown result
present_filter o t most is_unknown result e h = let P : Option Tree → Type 0 = λ u. ReadsFilter u most is_unknown result in subst P (sym e) h

pub reads_no_filter : (t : Tree) → None ≡ as_structure t → Lowest attr_number (WantedFault (Some t)) WrongType
unfolding as_structure
reads_no_filter (structure n us) e = cc
reads_no_filter (scalar n s) e = record { here = refl; least = λ j lt h. below_wrong j lt }

-- what is read of the children, by what is read of the names and of the rest
pub wrong_filter_names : (most : Option ℤ) (is_unknown : Bool) (ts : Trees) {A : Type 0} (view : A → List NameOf) (k : AttrFault) → Gives view (Err k) (names_in ts) → GivesFilter (Err k) (filter_in most is_unknown ts)
unfolding filter_in
wrong_filter_names most is_unknown ts view k h = wrong_first ts (both attr_number (judged_in ts) (types_in ts)) (filter_at most (is_loosened most is_unknown ts)) view filter_of k h

pub filter_with_rest : (most : Option ℤ) (is_unknown : Bool) (ts : Trees) (names : List NameOf) (rest : Result (Judged × Types) AttrFault) → names_in ts ≡ Ok names
    → rest ≡ both attr_number (judged_in ts) (types_in ts)
    → filter_in most is_unknown ts ≡ map_ok (λ r. filter_at most (is_loosened most is_unknown ts) (names, r)) rest
unfolding filter_in
filter_with_rest most is_unknown ts names rest e is =
    with_first ts names (both attr_number (judged_in ts) (types_in ts)) (filter_at most (is_loosened most is_unknown ts)) e
    ∙ ap (map_ok (λ r. filter_at most (is_loosened most is_unknown ts) (names, r))) (sym is)

pub filter_seen : (most : Option ℤ) (is_unknown : Bool) (ts : Trees) (names : List NameOf) (rest : Result (Judged × Types) AttrFault) (found : Judged) (types : Types) (maximum : Option ℤ) (loose : Bool)
    → names_in ts ≡ Ok names → rest ≡ both attr_number (judged_in ts) (types_in ts) → rest ≡ Ok (found, types)
    → maximum ≡ maximum_of most → loose ≡ (is_loosened most is_unknown ts || some_second found)
    → filter_in most is_unknown ts ≡ Ok (record { names = names; object_type = found.0.0.0; state = found.0.1.0; algorithm = found.1.0.0; length = found.1.1.0; maximum = maximum; is_loose = loose })
filter_seen most is_unknown ts names rest found types maximum loose e is was max lo =
    filter_with_rest most is_unknown ts names rest e is
    ∙ ap (map_ok (λ r. filter_at most (is_loosened most is_unknown ts) (names, r))) was
    ∙ (λ i. Ok (record { names = names; object_type = found.0.0.0; state = found.0.1.0; algorithm = found.1.0.0; length = found.1.1.0; maximum = sym max i; is_loose = sym lo i }))

-- the search for other filters
pub other_next : (ts us : Trees) (v : View) (b : Bool) → ts ≡ more (view_tree v) us → is_other v.tag.number ≡ b → has_other ts ≡ (b || has_other us)
unfolding has_other
other_next ts us v b e is = ap has_other e ∙ ap (λ (n : ℕ). is_other n || has_other us) (tag_of-view v.tag.number v.value) ∙ ap (λ (k : Bool). k || has_other us) is

pub other_none : (ts : Trees) → ts ≡ none → has_other ts ≡ false
unfolding has_other
other_none ts e = ap has_other e
