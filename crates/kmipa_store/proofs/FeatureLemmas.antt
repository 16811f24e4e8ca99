-- What the places that are listed say of the objects.
use Rattle.std.proofs.Common.{◌≡◌, ◌≢◌, ◌<◌, ◌≤◌, ◌&&◌, ◌==◌, ◌-◌, ◌+◌, ℕ, zero, suc, ℤ, Bool, true, false, cond, is_none, is_some, nat_le, nat_lt, not, List, [], ◌∷◌, ◌++◌, length, take, Option, Some, None, option_map, slice_get, refl, ap, sym, ◌∙◌, subst, inl, inr, arith}
use Rattle.std.specs.declared.cmp.Ordering.TheVariants.{Less}
use Rattle.std.specs.Ordering.{nat_cmp, int_eq, ordering_then}
use Rattle.std.specs.BTreeMap.{is_at}
use Rattle.std.specs.BTreeSet.{insert_key}
use Rattle.std.specs.Set.{remove_key}
use Rattle.std.proofs.lemmas.Bool.{and_parts, false_from_ne_true}
use Rattle.std.proofs.lemmas.Bool.Decides.{Decides-int_eq, nat_tests}
use Rattle.kmipa_attrs.specs.ObjectTypes.{type_number}
use Rattle.kmipa_object.specs.Allowances.{state_numbered}
use Rattle.kmipa_object.specs.Lists.{updated}
use Rattle.kmipa_object.specs.Life.{Dates, has_come, state, state_by_activation, state_number}
use Rattle.kmipa_object.specs.declared.life.Life.{Life}
use Rattle.kmipa_object.specs.declared.state.State.{State}
use Rattle.kmipa_object.specs.declared.state.State.TheVariants.{PreActive, Active, Deactivated, Compromised, Destroyed, DestroyedCompromised}
use Rattle.kmipa_object.proofs.ListLemmas.{below_get, get_below, get-append_cases, get-map, get-updated_other, get-updated_same}
use Rattle.kmipa_store.specs.Clock.{states_at}
use Rattle.kmipa_store.specs.Features.{Forgets, Keeps, KnowsFeature, KnowsLasting, KnowsStates, Notes, NotesIf, NotesLasting, NotesState, algorithm_of, code, is_lasting, is_live_state, is_noted, length_of, life_of, stands_with, stands_with_of, state_has}
use Rattle.kmipa_store.specs.Ledger.{Held, relived}
use Rattle.kmipa_store.specs.Names.{Named, is_listed, named_cmp}
use Rattle.kmipa_store.specs.Objects.{become, exchanged}
use Rattle.kmipa_store.specs.Queries.{has_feature, has_number, has_length, next_with}
use Rattle.kmipa_store.specs.declared.feature.Feature.{Feature}
use Rattle.kmipa_store.specs.declared.feature.Feature.TheVariants.{Live, State as InState, Kind, Algorithm, Length}
use Rattle.kmipa_store.specs.declared.features.Features.{Features}
use Rattle.kmipa_store.proofs.BearerLemmas.{first_place, no_place}
use Rattle.kmipa_store.proofs.NameLemmas.{Rests, Seeks, less_than, named_itself, named_same, none_before, still_under, taken_below, taken_from, tied, under}
use Rattle.kmipa_store.proofs.OrderLemmas.{equal_at, found_inserted, still_found, still_there}
use Rattle.kmipa_store.proofs.SoundLemmas.{relived_from, updated_cases}

same_number : (a b : ℕ) → (a == b) ≡ true → a ≡ b
same_number a b e = grind (arith, nat_tests)

same_length : (a b : ℤ) → int_eq a b ≡ true → a ≡ b
same_length a b e = (Decides-int_eq a b).0 e

numbered : (s : State) → state_numbered (state_number s) ≡ Some s
numbered PreActive = refl
numbered Active = refl
numbered Deactivated = refl
numbered Compromised = refl
numbered Destroyed = refl
numbered DestroyedCompromised = refl

pub same_state : (a b : State) → (state_number a == state_number b) ≡ true → a ≡ b
same_state a b e =
    let same : state_number a ≡ state_number b = same_number (state_number a) (state_number b) e in
    let both : Some a ≡ Some b = sym (numbered a) ∙ ap state_numbered same ∙ numbered b in
    cc

pub updated_same : {X : Type 0} (xs : List X) (p : ℕ) (w : X) → slice_get xs p ≡ Some w → xs ≡ updated xs p (λ _. w)
updated_same [] p w e = refl
updated_same (x ∷ xs) zero w e = let same : x ≡ w = cc in ap (λ y. y ∷ xs) same
updated_same (x ∷ xs) (suc p) w e = ap (λ ys. x ∷ ys) (updated_same xs p w e)

-- A LOOK-UP

stands_of : (objects : List Held) (p : ℕ) (feature : Feature) (t : ℤ) (o : Option Held) → slice_get objects p ≡ o → stands_with_of o feature t ≡ true → (h : Held) × (slice_get objects p ≡ Some h) × (has_feature feature t h ≡ true)
stands_of objects p feature t None e is = let bad : ⊥ = cc in absurd bad
stands_of objects p feature t (Some h) e is = (h, e, is)

stands_at : (objects : List Held) (p : ℕ) (feature : Feature) (t : ℤ) → stands_with objects p feature t ≡ true → (h : Held) × (slice_get objects p ≡ Some h) × (has_feature feature t h ≡ true)
stands_at objects p feature t is = stands_of objects p feature t (slice_get objects p) refl is

-- the test of the first place from one on
abbrev pub stands_from : List Held → ℕ → Feature → ℤ → ℕ → ℕ → Bool
stands_from objects from feature t p s = nat_le from p && (stands_with objects p feature t && (s == 0))

module _ (objects : List Held) (feature : Feature) (t : ℤ) where
  pub feature_start : (fs : Features) (n from end : ℕ) (rest : List Named) → KnowsFeature fs feature t objects → fs.is_known ≡ true → n ≡ code feature → end ≡ length objects
      → rest ≡ under n from end fs.by_code.keys → Seeks (stands_from objects from feature t) n rest
  feature_start fs n from end rest knows known is count e = record {
    left = λ p s passes.
        let parts = and_parts (nat_le from p) (stands_with objects p feature t && (s == 0)) passes in
        let own = and_parts (stands_with objects p feature t) (s == 0) parts.1 in
        let h = stands_at objects p feature t own.0 in
        let below = get_below objects p h.0 h.1 in
        let le : from ≤ p = grind (arith, nat_tests, parts.0) in
        let first : s ≡ 0 = same_number s 0 own.1 in
        let listed : is_listed fs.by_code.keys n p 0 ≡ true = ap (λ (k : ℕ). is_listed fs.by_code.keys k p 0) is ∙ knows known p h.0 h.1 h.2 in
        ap (λ (k : ℕ). is_listed rest n p k) first ∙ ap (λ (x : List Named). is_listed x n p 0) e ∙ still_under n from end fs.by_code.keys p 0 le (omega (arith, below, count)) listed;
  }

  passes_from : (from q : ℕ) (h : Held) → from ≤ q → slice_get objects q ≡ Some h → has_feature feature t h ≡ true → stands_from objects from feature t q 0 ≡ true
  passes_from from q h le at has =
      let e : nat_le from q ≡ true = grind (arith, nat_tests, le) in
      let is : stands_with objects q feature t ≡ true = ap (λ (o : Option Held). stands_with_of o feature t) at ∙ has in
      ap (λ (b : Bool). b && (stands_with objects q feature t && true)) e ∙ ap (λ (b : Bool). b && true) is

  -- the first that is left and has the feature
  pub feature_here : (n from : ℕ) (one : Named) (rest : List Named) → stands_with objects one.1 feature t ≡ true → Seeks (stands_from objects from feature t) n (one ∷ rest) → Rests n from (one ∷ rest)
      → next_with feature t from objects ≡ Some one.1
  feature_here n from one rest is k r =
      let h = stands_at objects one.1 feature t is in
      first_place (has_feature feature t) objects from one.1 h.0 r.inside.0.1 h.1 h.2 (λ q g ge lt at. false_from_ne_true (has_feature feature t g) (λ found.
      let less : named_cmp (n, q, 0) one ≡ Less =
      ap (λ (m : ℕ). ordering_then (ordering_then (nat_cmp n m) (nat_cmp q one.1)) (nat_cmp 0 one.2)) (sym r.inside.0.0)
      ∙ ap (λ o. ordering_then (ordering_then o (nat_cmp q one.1)) (nat_cmp 0 one.2)) (tied n) ∙ ap (λ o. ordering_then o (nat_cmp 0 one.2)) (less_than q one.1 lt) in
      let clash : true ≡ false = sym (k.left q 0 (passes_from from q g ge at found)) ∙ none_before (n, q, 0) one rest r.sorted less in
      cc))

  pub feature_none : (n from : ℕ) → Seeks (stands_from objects from feature t) n [] → next_with feature t from objects ≡ None
  feature_none n from k = no_place (has_feature feature t) objects from (λ q g ge at. false_from_ne_true (has_feature feature t g) (λ found.
      let clash : false ≡ true = k.left q 0 (passes_from from q g ge at found) in
      cc))

  pub feature_past : (from : ℕ) → length objects < from → next_with feature t from objects ≡ None
  feature_past from past = no_place (has_feature feature t) objects from (λ q g ge at. let below = get_below objects q g at in absurd (omega (arith, below, past, ge)))

  pub feature_within : (p : ℕ) → stands_with objects p feature t ≡ true → p < length objects
  feature_within p is = let h = stands_at objects p feature t is in get_below objects p h.0 h.1

  -- one that fails is not the one looked for
  pub feature_fails : (from p s : ℕ) → stands_with objects p feature t ≡ false → stands_from objects from feature t p s ≡ false
  feature_fails from p s is = false_from_ne_true (stands_from objects from feature t p s) (λ e.
      let parts = and_parts (nat_le from p) (stands_with objects p feature t && (s == 0)) e in
      let own = and_parts (stands_with objects p feature t) (s == 0) parts.1 in
      let clash : true ≡ false = sym own.0 ∙ is in
      cc)

-- WHAT IS LISTED

pub noted_put : (old new : Features) (n place : ℕ) (feature : Feature) → n ≡ code feature → old.is_known ≡ true → new.by_code.keys ≡ insert_key named_cmp old.by_code.keys (n, place, 0) → Notes old place feature new
noted_put old new n place feature is known e = λ _. (
  known,
  (λ f p h. ap (λ (ks : List Named). is_listed ks (code f) p 0) e ∙ still_found named_cmp (n, place, 0) (named_itself (n, place, 0)) (is_at (named_cmp (code f, p, 0))) old.by_code.keys h),
  ap (λ (ks : List Named). is_listed ks (code feature) place 0) e
      ∙ ap (λ (k : ℕ). is_listed (insert_key named_cmp old.by_code.keys (n, place, 0)) k place 0) (sym is)
      ∙ found_inserted named_cmp (n, place, 0) (named_itself (n, place, 0)) old.by_code.keys,
)

pub forgotten : (old new : Features) (n place : ℕ) → new.is_known ≡ old.is_known → new.by_code.keys ≡ remove_key (is_at (named_cmp (n, place, 0))) old.by_code.keys → Forgets old place new
forgotten old new n place known e = (
  known,
  (λ f p other h.
      ap (λ (ks : List Named). is_listed ks (code f) p 0) e
      ∙ still_there (is_at (named_cmp (code f, p, 0))) (is_at (named_cmp (n, place, 0))) (λ x is. false_from_ne_true (is_at (named_cmp (n, place, 0)) x) (λ also.
      let one = named_same (code f) p 0 x (equal_at (named_cmp (code f, p, 0) x) is) in
      let two = named_same n place 0 x (equal_at (named_cmp (n, place, 0) x) also) in
      absurd (other (one.1 ∙ sym two.1)))) old.by_code.keys h),
)

pub forgets_none : (old : Features) (place : ℕ) → Forgets old place old
forgets_none old place = (refl, λ f p other h. h)

pub forgets_both : (old mid new : Features) (place : ℕ) → Forgets old place mid → Forgets mid place new → Forgets old place new
forgets_both old mid new place a b = (b.0 ∙ a.0, λ f p other h. b.1 f p other (a.1 f p other h))

pub notes_one : (old new : Features) (place : ℕ) (o : Option Feature) (feature : Feature) → o ≡ Some feature → Notes old place feature new → NotesIf old place o new
notes_one old new place o feature is notes = λ known.
    let n = notes known in
    (n.0, n.1, λ f e. let both : Some feature ≡ Some f = sym is ∙ e in let same : feature ≡ f = cc in subst (λ (x : Feature). is_noted new x place ≡ true) same n.2)

pub notes_none : (old : Features) (place : ℕ) (o : Option Feature) → o ≡ None → NotesIf old place o old
notes_none old place o is = λ known. (known, λ f p h. h, λ f e. let bad : None ≡ Some f = sym is ∙ e in cc)

-- under a type, and an algorithm and a length where there are these
lasting_is : (old a b new : Features) (place n : ℕ) (h : Held) → n ≡ type_number h.card.kind → Notes old place (Kind n) a → NotesIf a place (algorithm_of h) b → NotesIf b place (length_of h) new
    → new.is_known ≡ true → (feature : Feature) (t : ℤ) → is_lasting feature ≡ true → has_feature feature t h ≡ true → is_noted new feature place ≡ true
lasting_is old a b new place n h is one two three known Live t lasts has = cc
lasting_is old a b new place n h is one two three known (InState m) t lasts has = cc
lasting_is old a b new place n h is one two three known (Kind m) t lasts has =
    let c = three known in
    let d = two c.0 in
    let e = one d.0 in
    let same : n ≡ m = is ∙ sym (same_number m (type_number h.card.kind) has) in
    c.1 (Kind m) place (d.1 (Kind m) place (subst (λ (k : ℕ). is_noted a (Kind k) place ≡ true) same e.2))
lasting_is old a b new place n h is one two three known (Algorithm m) t lasts has =
    let c = three known in
    let d = two c.0 in
    c.1 (Algorithm m) place (d.2 (Algorithm m) (own_number h.card.given.algorithm m has))
  where
    own_number : (o : Option ℕ) (k : ℕ) → has_number o k ≡ true → option_map Algorithm o ≡ Some (Algorithm k)
    own_number None k e = cc
    own_number (Some x) k e = ap (λ (y : ℕ). Some (Algorithm y)) (same_number x k e)
lasting_is old a b new place n h is one two three known (Length m) t lasts has = (three known).2 (Length m) (own_length h.card.given.length m has)
  where
    own_length : (o : Option ℤ) (k : ℤ) → has_length o k ≡ true → option_map Length o ≡ Some (Length k)
    own_length None k e = cc
    own_length (Some x) k e = ap (λ (y : ℤ). Some (Length y)) (same_length x k e)

pub notes_lasting : (old a b new : Features) (place n : ℕ) (h : Held) → n ≡ type_number h.card.kind → Notes old place (Kind n) a → NotesIf a place (algorithm_of h) b → NotesIf b place (length_of h) new → NotesLasting old place h new
notes_lasting old a b new place n h is one two three = λ known.
    let c = three known in
    let d = two c.0 in
    let e = one d.0 in
    (e.0, λ f p g. c.1 f p (d.1 f p (e.1 f p g)), λ f t lasts has. lasting_is old a b new place n h is one two three known f t lasts has)

-- under a state, and among the live ones where it is a state of these
state_is : (a new : Features) (place n : ℕ) (s : State) → n ≡ state_number s → is_noted a (InState n) place ≡ true → Keeps a new → ((f : Feature) → life_of s ≡ Some f → is_noted new f place ≡ true)
    → (feature : Feature) → state_has feature s ≡ true → is_noted new feature place ≡ true
state_is a new place n s is one keeps own Live has = own Live (ap (λ (b : Bool). cond b (Some Live) None) has)
state_is a new place n s is one keeps own (InState m) has =
    let same : n ≡ m = is ∙ sym (same_number m (state_number s) has) in keeps (InState m) place (subst (λ (k : ℕ). is_noted a (InState k) place ≡ true) same one)
state_is a new place n s is one keeps own (Kind m) has = cc
state_is a new place n s is one keeps own (Algorithm m) has = cc
state_is a new place n s is one keeps own (Length m) has = cc

pub notes_state : (old a new : Features) (place n : ℕ) (s : State) → n ≡ state_number s → Notes old place (InState n) a → NotesIf a place (life_of s) new → NotesState old place s new
notes_state old a new place n s is one two = λ known.
    let d = two known in
    let e = one d.0 in
    (e.0, λ f p g. d.1 f p (e.1 f p g), state_is a new place n s is e.2 d.1 d.2)

-- STATES

live_by : (d : Dates) (t : ℤ) → is_live_state (state_by_activation d t) ≡ true
live_by d t = (elim (has_come d.activation t) as (λ a. is_live_state (cond (not a) PreActive (cond (has_come d.deactivation t) Deactivated Active)) ≡ true) [
  | false ↦ refl
  | true ↦ (elim (has_come d.deactivation t) as (λ b. is_live_state (cond b Deactivated Active) ≡ true) [ true ↦ refl | false ↦ refl ])
])

-- without a Destroy Date an object is in a state of live ones
pub live_state : (d : Dates) (t : ℤ) → is_none d.destroy ≡ true → is_live_state (state d t) ≡ true
live_state d t none = (elim d.destroy as (λ o. is_none o ≡ true → is_live_state (cond (is_some o && is_some d.compromise) DestroyedCompromised (cond (is_some o) Destroyed (cond (is_some d.compromise) Compromised (state_by_activation d t)))) ≡ true) [
  | None ↦ λ e. (elim (is_some d.compromise) as (λ c. is_live_state (cond c Compromised (state_by_activation d t)) ≡ true) [ true ↦ refl | false ↦ live_by d t ])
  | Some x ↦ λ e. cc
]) none

passing_has : (f : Feature) (t : ℤ) (h : Held) → is_lasting f ≡ false → has_feature f t h ≡ true → state_has f (state h.card.dates t) ≡ true
passing_has Live t h p has = live_state h.card.dates t has
passing_has (InState n) t h p has = has
passing_has (Kind n) t h p has = cc
passing_has (Algorithm n) t h p has = cc
passing_has (Length n) t h p has = cc

-- what is known by the states is known of the objects
pub knows_passing : (fs : Features) (objects : List Held) (states : List State) (f : Feature) (t : ℤ) → KnowsStates fs states → states ≡ states_at objects t → is_lasting f ≡ false → KnowsFeature fs f t objects
knows_passing fs objects states f t knows told p = λ known q h at has.
    knows known f q (state h.card.dates t)
    (ap (λ (ss : List State). slice_get ss q) told ∙ get-map (λ (x : Held). state x.card.dates t) objects q ∙ ap (option_map (λ (x : Held). state x.card.dates t)) at) (passing_has f t h p has)

pub states_more : (old new : Features) (xs : List State) (s : State) (place : ℕ) → KnowsStates old xs → place ≡ length xs → NotesState old place s new → KnowsStates new (xs ++ s ∷ [])
states_more old new xs s place knows is notes = λ known f p x at has.
    let n = notes known in
    elim (get-append_cases xs s p x at) [
      | inl b ↦ n.1 f p (knows n.0 f p x b has)
      | inr b ↦ subst (λ (k : ℕ). is_noted new f k ≡ true) (is ∙ sym b.0) (n.2 f (ap (state_has f) (sym b.1) ∙ has))
    ]

pub kept_before : {X : Type 0} (xs : List X) (y : X) (p : ℕ) (x : X) → slice_get xs p ≡ Some x → slice_get (xs ++ y ∷ []) p ≡ Some x
kept_before [] y p x e = cc
kept_before (z ∷ xs) y zero x e = e
kept_before (z ∷ xs) y (suc p) x e = kept_before xs y p x e

pub states_fewer : (old new : Features) (xs ys : List State) (s : State) (place : ℕ) → KnowsStates old ys → ys ≡ xs ++ s ∷ [] → place ≡ length xs → Forgets old place new → KnowsStates new xs
states_fewer old new xs ys s place knows e is forgets = λ known f p x at has.
    let below = get_below xs p x at in
    let other : p ≢ place = λ same. absurd (omega (arith, below, same, is)) in
    forgets.1 f p other (knows (sym forgets.0 ∙ known) f p x (ap (λ (zs : List State). slice_get zs p) e ∙ kept_before xs s p x at) has)

pub states_set : (old mid new : Features) (xs : List State) (s : State) (place : ℕ) → place < length xs → KnowsStates old xs → Forgets old place mid → NotesState mid place s new → KnowsStates new (updated xs place (λ _. s))
states_set old mid new xs s place within knows forgets notes = λ known f p x at has.
    let n = notes known in
    (elim (p == place) as (λ r. (p == place) ≡ r → is_noted new f p ≡ true) [
      | true ↦ λ e.
          let same : p ≡ place = same_number p place e in
          let was = below_get xs place within in
          let both : Some s ≡ Some x = sym (get-updated_same xs place (λ _. s) was.0 was.1) ∙ ap (slice_get (updated xs place (λ _. s))) (sym same) ∙ at in
          let is : s ≡ x = cc in
          subst (λ (k : ℕ). is_noted new f k ≡ true) (sym same) (n.2 f (ap (state_has f) is ∙ has))
      | false ↦ λ e.
          let other : p ≢ place = λ same. let yes : (place == place) ≡ false = ap (λ (k : ℕ). k == place) (sym same) ∙ e in grind (arith, nat_tests) in
          n.1 f p (forgets.1 f p other (knows (sym forgets.0 ∙ n.0) f p x (sym (get-updated_other xs place p (λ _. s) other) ∙ at) has))
    ]) refl

-- what is known of the states before a place
abbrev pub KnowsTo : Features → List State → ℕ → Type 0
KnowsTo fs states end = fs.is_known ≡ true → (f : Feature) (p : ℕ) (s : State) → p < end → slice_get states p ≡ Some s → state_has f s ≡ true → is_noted fs f p ≡ true

pub to_none : (fs : Features) (xs : List State) (end : ℕ) → end ≡ 0 → KnowsTo fs xs end
to_none fs xs end e = λ known f p s below. absurd (omega (arith, below, e))

pub to_next : (old new : Features) (xs : List State) (s : State) (place : ℕ) → slice_get xs place ≡ Some s → KnowsTo old xs place → NotesState old place s new → KnowsTo new xs (place + 1)
to_next old new xs s place there knows notes = λ known f p x below at has.
    let n = notes known in
    (elim (nat_lt p place) as (λ r. nat_lt p place ≡ r → is_noted new f p ≡ true) [
      | true ↦ λ e. n.1 f p (knows n.0 f p x (grind (arith, nat_tests, e)) at has)
      | false ↦ λ e.
          let past : place ≤ p = grind (arith, nat_tests, e) in
          let same : p ≡ place = omega (arith, past, below) in
          let both : Some s ≡ Some x = sym there ∙ ap (slice_get xs) (sym same) ∙ at in
          let is : s ≡ x = cc in
          subst (λ (k : ℕ). is_noted new f k ≡ true) (sym same) (n.2 f (ap (state_has f) is ∙ has))
    ]) refl

pub to_all : (fs : Features) (xs : List State) (end : ℕ) → length xs ≤ end → KnowsTo fs xs end → KnowsStates fs xs
to_all fs xs end all knows = λ known f p s at has. knows known f p s (let b = get_below xs p s at in omega (arith, b, all)) at has

-- WHAT LASTS

pub lasts_more : (old new : Features) (hs ys : List Held) (h g : Held) (place : ℕ) → KnowsLasting old hs → ys ≡ hs ++ h ∷ [] → place ≡ length hs → slice_get ys place ≡ Some g → NotesLasting old place g new → KnowsLasting new ys
lasts_more old new hs ys h g place knows e is there notes = λ known f lasts t p x at has.
    let n = notes known in
    elim (get-append_cases hs h p x (ap (λ (zs : List Held). slice_get zs p) (sym e) ∙ at)) [
      | inl b ↦ n.1 f p (knows n.0 f lasts t p x b has)
      | inr b ↦
          let here : p ≡ place = b.0 ∙ sym is in
          let both : Some g ≡ Some x = sym there ∙ ap (slice_get ys) (sym here) ∙ at in
          let same : g ≡ x = cc in
          subst (λ (k : ℕ). is_noted new f k ≡ true) (sym here) (n.2 f t lasts (ap (has_feature f t) same ∙ has))
    ]

pub lasts_fewer : (old new : Features) (hs ys : List Held) → KnowsLasting old hs → Forgets old (length hs - 1) new → ys ≡ take (length hs - 1) hs → KnowsLasting new ys
lasts_fewer old new hs ys knows forgets e = subst (λ (zs : List Held). KnowsLasting new zs) (sym e) (λ known f lasts t p x at has.
    let below = taken_below hs (length hs - 1) p x at in
    let other : p ≢ length hs - 1 = λ same. absurd (omega (arith, below, same)) in
    forgets.1 f p other (knows (sym forgets.0 ∙ known) f lasts t p x (taken_from hs (length hs - 1) p x at) has))

same_feature : (f : Feature) (t : ℤ) (g h : Held) → is_lasting f ≡ true → g.card.kind ≡ h.card.kind → g.card.given ≡ h.card.given → has_feature f t g ≡ true → has_feature f t h ≡ true
same_feature Live t g h lasts k e has = cc
same_feature (InState n) t g h lasts k e has = cc
same_feature (Kind n) t g h lasts k e has = ap (λ x. n == type_number x) (sym k) ∙ has
same_feature (Algorithm n) t g h lasts k e has = ap (λ x. has_number x.algorithm n) (sym e) ∙ has
same_feature (Length n) t g h lasts k e has = ap (λ x. has_length x.length n) (sym e) ∙ has

-- an object keeps them, whatever life it leads
pub lasts_led : (fs : Features) (hs ys : List Held) (place : ℕ) (life : Life) → KnowsLasting fs hs → ys ≡ relived hs place life → KnowsLasting fs ys
lasts_led fs hs ys place life knows e = subst (λ (zs : List Held). KnowsLasting fs zs) (sym e) (λ known f lasts t p x at has.
    let r = relived_from hs place p life x at in
    knows known f lasts t p r.0 r.1
    (elim r.2 [
      | inl a ↦ ap (has_feature f t) (sym a) ∙ has
      | inr b ↦ same_feature f t x r.0 lasts (ap (λ (z : Held). z.card.kind) b.1) (ap (λ (z : Held). z.card.given) b.1) has
    ]))

-- another object at a place
pub lasts_exchanged : (old mid new : Features) (hs ys : List Held) (place : ℕ) (h g : Held) → KnowsLasting old hs → Forgets old place mid → ys ≡ exchanged hs place h → slice_get ys place ≡ Some g
    → NotesLasting mid place g new → KnowsLasting new ys
lasts_exchanged old mid new hs ys place h g knows forgets e there notes = λ known f lasts t p x at has.
    let n = notes known in
    elim (updated_cases hs place p (λ z. become z h) x (ap (λ (zs : List Held). slice_get zs p) (sym e) ∙ at)) [
      | inl b ↦ n.1 f p (forgets.1 f p b.0 (knows (sym forgets.0 ∙ n.0) f lasts t p x b.1 has))
      | inr b ↦
          let both : Some g ≡ Some x = sym there ∙ ap (slice_get ys) (sym b) ∙ at in
          let same : g ≡ x = cc in
          subst (λ (k : ℕ). is_noted new f k ≡ true) (sym b) (n.2 f t lasts (ap (has_feature f t) same ∙ has))
    ]

-- what is known of the objects before a place
abbrev pub LastsTo : Features → List Held → ℕ → Type 0
LastsTo fs hs end = fs.is_known ≡ true → (f : Feature) → is_lasting f ≡ true → (t : ℤ) (p : ℕ) (h : Held) → p < end → slice_get hs p ≡ Some h → has_feature f t h ≡ true → is_noted fs f p ≡ true

pub lasts_none : (fs : Features) (hs : List Held) (end : ℕ) → end ≡ 0 → LastsTo fs hs end
lasts_none fs hs end e = λ known f lasts t p h below. absurd (omega (arith, below, e))

pub lasts_next : (old new : Features) (hs : List Held) (h : Held) (place : ℕ) → slice_get hs place ≡ Some h → LastsTo old hs place → NotesLasting old place h new → LastsTo new hs (place + 1)
lasts_next old new hs h place there knows notes = λ known f lasts t p x below at has.
    let n = notes known in
    (elim (nat_lt p place) as (λ r. nat_lt p place ≡ r → is_noted new f p ≡ true) [
      | true ↦ λ e. n.1 f p (knows n.0 f lasts t p x (grind (arith, nat_tests, e)) at has)
      | false ↦ λ e.
          let past : place ≤ p = grind (arith, nat_tests, e) in
          let same : p ≡ place = omega (arith, past, below) in
          let both : Some h ≡ Some x = sym there ∙ ap (slice_get hs) (sym same) ∙ at in
          let is : h ≡ x = cc in
          subst (λ (k : ℕ). is_noted new f k ≡ true) (sym same) (n.2 f t lasts (ap (has_feature f t) is ∙ has))
    ]) refl

pub lasts_all : (fs : Features) (hs : List Held) (end : ℕ) → length hs ≤ end → LastsTo fs hs end → KnowsLasting fs hs
lasts_all fs hs end all knows = λ known f lasts t p h at has. knows known f lasts t p h (let b = get_below hs p h at in omega (arith, b, all)) at has
