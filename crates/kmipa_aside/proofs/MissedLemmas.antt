-- The hidden objects that a Locate misses.
use Rattle.std.proofs.Common.{◌≡◌, ◌∙◌, ◌++◌, ◌+◌, ◌||◌, not, Contains, slice_index_or, arith, refl, ap, sym, subst, ℕ, zero, suc, ℤ, Bool, true, false, if◌then◌else◌, List, [], ◌∷◌, drop, length, map, slice_get, Option, Some, None, Result, Ok, Err, IfOk, append_assoc}
use denote.Bor.{Bor}
use Rattle.kmipa_attrs.specs.Filters.{FilterOf, filter_of}
use Rattle.kmipa_attrs.specs.declared.filter.Filter.{Filter}
use Rattle.std.specs.Prelude.{option_and_then}
use Rattle.kmipa_object.specs.Inventory.{Card, place_of}
use Rattle.kmipa_object.specs.Life.{state}
use Rattle.kmipa_object.specs.declared.state.State.{State}
use Rattle.kmipa_object.proofs.ListLemmas.{map-push}
use Rattle.kmipa_store.specs.Ledger.{Held, cards_of}
use Rattle.kmipa_msgs.specs.Messages.{AnswerOf, AskOf, AskedOf, PayloadOf, lent, locates, located}
use Rattle.kmipa_msgs.specs.declared.response.Status.{Status}
use Rattle.kmipa_msgs.specs.declared.response.Status.TheVariants.{Success, Failed, Undone}
use Rattle.kmipa_ops.specs.Listing.{must_of}
use Rattle.kmipa_ops.specs.Locate.{IsFit, Lists, is_full, ListsAreDecided, May, Must, locate_speaks, must_fit}
use Rattle.kmipa_ops.specs.Objects.{card_meant}
use Rattle.kmipa_ops.specs.declared.fit.Fit.{Fit}
use Rattle.kmipa_ops.specs.declared.fit.Fit.TheVariants as fit
use Rattle.kmipa_ops.specs.declared.why.Why.{Why}
use Rattle.kmipa_ops.specs.declared.why.Why.TheVariants.{ListedWrongly, ListedTooFew}
use Rattle.kmipa_aside.specs.Cases.{is_failed}
use Rattle.kmipa_aside.specs.Missed.{IsMissing, IsWith, answer_with, ask_with, asked_with, is_any, is_list, is_missed, missed, missed_by, missed_in, missed_of, must_here, payload_with}
use Rattle.kmipa_aside.specs.Sights.{SightOf}
use Rattle.kmipa_aside.specs.Standing.{StandOf}
use Rattle.kmipa_aside.specs.declared.beside.Beside.{Beside}
use Rattle.kmipa_aside.proofs.RepeatLemmas.{append_nil}
use Rattle.kmipa_aside.proofs.SettingLemmas.{drop_here}

-- ---- an object that is to be listed: by what is decided of lists

none_in : {X : Type 0} (x : X) → Contains [] x → ⊥
none_in x h = omega (arith, h.1)

one_in : {X : Type 0} (x : X) → Contains (x ∷ []) x
one_in x = (0, omega arith, refl)

module _ (decided : ListsAreDecided) (q : FilterOf) (t : ℤ) (c : Card) where
  -- however many may be listed
  abbrev many : FilterOf
  many = record q { maximum = None }

  abbrev s : State
  s = state c.dates t

  may_many : May q s c → May many s c
  may_many m = record { names = m.names; object_type = m.object_type; state = m.state; algorithm = m.algorithm; length = m.length }

  must_many : Must q s c → Must many s c
  must_many m = record { may = may_many m.may; alive = m.alive; strict = m.strict; algorithm = m.algorithm; length = m.length }

  may_own : May many s c → May q s c
  may_own m = record { names = m.names; object_type = m.object_type; state = m.state; algorithm = m.algorithm; length = m.length }

  must_own : Must many s c → Must q s c
  must_own m = record { may = may_own m.may; alive = m.alive; strict = m.strict; algorithm = m.algorithm; length = m.length }

  speaks_none : must_fit q s c ≡ false → (why : Why) → locate_speaks (c ∷ []) t many (Some []) why ≡ false
  speaks_none e ListedWrongly = refl
  speaks_none e ListedTooFew = ap (λ (b : Bool). not (not b || false) || false) e
  speaks_none e why = refl

  must_not : must_fit q s c ≡ false → Must q s c → ⊥
  must_not e m = none_in c.id (((decided (c ∷ []) t many []).0 (speaks_none e)).all refl c (one_in c) (must_many m))

  -- none is, where this one needn't be
  lists_none : (Must q s c → ⊥) → Lists (c ∷ []) t many []
  lists_none not = record {
    right = record { once = λ i j id x y. let bad : ⊥ = cc in absurd bad; fits = λ id h. absurd (none_in id h); most = refl };
    all = λ free d has must. absurd (by d has must);
  }
    where
      by : (d : Card) → Contains (c ∷ []) d → Must many (state d.dates t) d → ⊥
      by d has must =
          let first : has.0 ≡ 0 = omega (arith, has.1) in
          let is : c ≡ d = let at = has.2 in subst (λ (k : ℕ). slice_index_or (c ∷ []) k d ≡ d) first at in
          not (must_own (subst (λ (x : Card). Must many (state x.dates t) x) (sym is) must))

  not_must : (Must q s c → ⊥) → must_fit q s c ≡ false
  not_must un = elim (must_fit q s c) as (λ b. must_fit q s c ≡ b → b ≡ false) [
    | true ↦ λ e.
        let quiet : locate_speaks (c ∷ []) t many (Some []) ListedTooFew ≡ false = (decided (c ∷ []) t many []).1 (lists_none un) ListedTooFew in
        sym (ap (λ (b : Bool). not (not b || false) || false) e) ∙ quiet
    | false ↦ λ e. refl
  ] refl

  is_must : Must q s c → must_fit q s c ≡ true
  is_must m = elim (must_fit q s c) as (λ b. must_fit q s c ≡ b → b ≡ true) [ true ↦ λ e. refl | false ↦ λ e. absurd (must_not e m) ] refl

  fit_tells : (f : Fit) → IsFit q s c f → must_fit q s c ≡ must_of f
  fit_tells fit.Must x = is_must x
  fit_tells fit.May x = not_must x.1
  fit_tells fit.Not x = not_must (λ m. x m.may)

  -- an object that is there
  must_there : (o : Option Card) (f : Fit) → o ≡ Some c → IsFit q s c f → must_of f ≡ must_here q t o
  must_there o f e told = sym (ap (must_here q t) e ∙ fit_tells f told)

pub card_there : (hs : List Held) (place : ℕ) (h : Held) → slice_get hs place ≡ Some h → slice_get (cards_of hs) place ≡ Some h.card
card_there [] place h e = cc
card_there (g ∷ hs) zero h e = let same : g ≡ h = cc in ap (λ (x : Held). Some x.card) same
card_there (g ∷ hs) (suc place) h e = card_there hs place h e

pub must_found : ListsAreDecided → (q : FilterOf) (objects : List Held) (id : List ℕ) (place : ℕ) (found : Option ℕ) (h : Held) (moment t : ℤ) (s : State) (kind f : Fit) → found ≡ place_of id (cards_of objects)
    → found ≡ Some place → slice_get objects place ≡ Some h → moment ≡ t → s ≡ state h.card.dates moment → IsFit q s h.card kind → kind ≡ f
    → must_of f ≡ must_here q t (card_meant (cards_of objects) (Some id))
must_found decided q objects id place found h moment t s kind f looked is at same told fit so =
    let P : State → Type 0 = λ x. IsFit q x h.card kind in
    let Q : Fit → Type 0 = λ x. IsFit q (state h.card.dates t) h.card x in
    let there : card_meant (cards_of objects) (Some id) ≡ Some h.card =
    ap (λ (o : Option ℕ). option_and_then (slice_get (cards_of objects)) o) (sym looked ∙ is) ∙ card_there objects place h at in
    must_there decided q t h.card (card_meant (cards_of objects) (Some id)) f there (subst Q so (subst P (told ∙ ap (λ (z : ℤ). state h.card.dates z) same) fit))

module _ (cs : List Card) (t : ℤ) (q : FilterOf) (listed : List (List ℕ)) where
  abbrev of : List (List ℕ) → List (List ℕ)
  of ids = missed_of cs t q listed ids

  split : (b : Bool) (id : List ℕ) (xs : List (List ℕ)) → (if b then id ∷ [] else []) ++ xs ≡ (if b then id ∷ xs else xs)
  split true id xs = refl
  split false id xs = refl

  -- one identifier more
  pub missed_more : (ids : List (List ℕ)) (i : ℕ) (id : List ℕ) → slice_get ids i ≡ Some id → (done more : List (List ℕ)) → more ≡ done ++ of (id ∷ []) → done ++ of (drop i ids) ≡ of ids
      → more ++ of (drop (i + 1) ids) ≡ of ids
  missed_more ids i id at done more e h =
      let rest : List (List ℕ) = of (drop (i + 1) ids) in
      ap (λ (xs : List (List ℕ)). xs ++ rest) e ∙ append_assoc done (of (id ∷ [])) rest
      ∙ ap (λ (xs : List (List ℕ)). done ++ xs) (split (is_missed cs t q listed id) id rest ∙ sym (ap of (drop_here ids i id at))) ∙ h

  pub missed_none : (done : List (List ℕ)) (id : List ℕ) → is_missed cs t q listed id ≡ false → done ≡ done ++ of (id ∷ [])
  missed_none done id e = sym (append_nil done) ∙ ap (λ (b : Bool). done ++ (if b then id ∷ [] else [])) (sym e)

  pub missed_one : (done : List (Bor (List ℕ))) (id : Bor (List ℕ)) → is_missed cs t q listed id.now ≡ true → map lent (done ++ id ∷ []) ≡ map lent done ++ of (id.now ∷ [])
  missed_one done id e = map-push lent done id ∙ ap (λ (b : Bool). map lent done ++ (if b then id.now ∷ [] else [])) (sym e)

pub none_missed_at : (cs : List Card) (moment t : ℤ) → moment ≡ t → (q : FilterOf) (listed done : List (List ℕ)) (id : List ℕ) → is_missed cs moment q listed id ≡ false → done ≡ done ++ missed_of cs t q listed (id ∷ [])
none_missed_at cs moment t at q listed done id e = missed_none cs t q listed done id (ap (λ (z : ℤ). is_missed cs z q listed id) (sym at) ∙ e)

pub one_missed_at : (cs : List Card) (moment t : ℤ) → moment ≡ t → (q : FilterOf) (listed : List (List ℕ)) (done : List (Bor (List ℕ))) (id : Bor (List ℕ)) → is_missed cs moment q listed id.now ≡ true
    → map lent (done ++ id ∷ []) ≡ map lent done ++ missed_of cs t q listed (id.now ∷ [])
one_missed_at cs moment t at q listed done id e = missed_one cs t q listed done id (ap (λ (z : ℤ). is_missed cs z q listed id.now) (sym at) ∙ e)

-- a list that isn't full misses these
listed_so : (hidden : List (List ℕ)) (s : StandOf) (t : ℤ) (q : FilterOf) (listed : List (List ℕ)) (full : Bool) → full ≡ false
    → missed_of s.cards t q listed hidden ≡ (if full then [] else missed_of s.cards t q listed hidden)
listed_so hidden s t q listed true e = let bad : ⊥ = cc in absurd bad
listed_so hidden s t q listed false e = refl

pub in_list : (hidden : List (List ℕ)) (s : StandOf) (moment t : ℤ) → moment ≡ t → (asked : AskedOf) (payload : Option PayloadOf) (filter value : Filter) → filter ≡ value → (listed ids : List (List ℕ))
    → asked ≡ locates (filter_of value) → payload ≡ Some (located listed) → is_full value.maximum (length listed) ≡ false → ids ≡ missed_of s.cards moment (filter_of filter) listed hidden
    → ids ≡ missed_in hidden s t asked payload
in_list hidden s moment t at asked payload filter value same listed ids asks lists full found =
    let q : FilterOf = filter_of value in
    found
    ∙ ap (λ (f : Filter). missed_of s.cards moment (filter_of f) listed hidden) same
    ∙ ap (λ (z : ℤ). missed_of s.cards z q listed hidden) at
    ∙ listed_so hidden s t q listed (is_full value.maximum (length listed)) full
    ∙ sym (ap (λ (a : AskedOf). missed_in hidden s t a payload) asks ∙ ap (λ (p : Option PayloadOf). missed_in hidden s t (locates q) p) lists)

done_so : (status : Status) (hidden : List (List ℕ)) (s : StandOf) (t : ℤ) (asked : AskedOf) (payload : Option PayloadOf) → is_failed status ≡ false
    → missed_in hidden s t asked payload ≡ missed_by status hidden s t asked payload
done_so Success hidden s t asked payload e = refl
done_so Undone hidden s t asked payload e = refl
done_so Failed hidden s t asked payload e = let bad : ⊥ = cc in absurd bad

failed_so : (status : Status) (hidden : List (List ℕ)) (s : StandOf) (t : ℤ) (asked : AskedOf) (payload : Option PayloadOf) → is_failed status ≡ true → [] ≡ missed_by status hidden s t asked payload
failed_so Success hidden s t asked payload e = let bad : ⊥ = cc in absurd bad
failed_so Undone hidden s t asked payload e = let bad : ⊥ = cc in absurd bad
failed_so Failed hidden s t asked payload e = refl

over_so : (over : Bool) (ids : List (List ℕ)) → over ≡ false → ids ≡ (if over then [] else ids)
over_so true ids e = let bad : ⊥ = cc in absurd bad
over_so false ids e = refl

none_so : (over : Bool) (ids : List (List ℕ)) → [] ≡ ids → [] ≡ (if over then [] else ids)
none_so true ids e = refl
none_so false ids e = e

module _ (sight : SightOf) (s : StandOf) (ask : AskOf) (answer : AnswerOf) where
  pub missed_done : (moment t : ℤ) → moment ≡ t → s.aside.over ≡ false → is_failed answer.status ≡ false → (ids : List (List ℕ)) → ids ≡ missed_in sight.hidden s moment ask.asked answer.payload
      → ids ≡ missed sight s t ask answer
  missed_done moment t at on done ids found =
      found ∙ ap (λ (z : ℤ). missed_in sight.hidden s z ask.asked answer.payload) at ∙ done_so answer.status sight.hidden s t ask.asked answer.payload done
      ∙ over_so s.aside.over (missed_by answer.status sight.hidden s t ask.asked answer.payload) on

  pub missed_failed : (t : ℤ) → is_failed answer.status ≡ true → [] ≡ missed sight s t ask answer
  missed_failed t failed = none_so s.aside.over (missed_by answer.status sight.hidden s t ask.asked answer.payload) (failed_so answer.status sight.hidden s t ask.asked answer.payload failed)

-- only a Locate misses some
unlisted_in : (hidden : List (List ℕ)) (s : StandOf) (t : ℤ) (asked : AskedOf) (payload : Option PayloadOf) → is_list asked payload ≡ false → missed_in hidden s t asked payload ≡ []
unlisted_in hidden s t (locates q) (Some (located ids)) e = let bad : ⊥ = cc in absurd bad
unlisted_in hidden s t asked payload e = refl

none_by : (status : Status) (hidden : List (List ℕ)) (s : StandOf) (t : ℤ) (asked : AskedOf) (payload : Option PayloadOf) → is_list asked payload ≡ false
    → missed_by status hidden s t asked payload ≡ []
none_by Success hidden s t asked payload e = unlisted_in hidden s t asked payload e
none_by Undone hidden s t asked payload e = unlisted_in hidden s t asked payload e
none_by Failed hidden s t asked payload e = refl

none_if : (b : Bool) (ids : List (List ℕ)) → ids ≡ [] → is_any (if b then [] else ids) ≡ false
none_if true ids e = refl
none_if false ids e = ap is_any e

pub none_missed : (over : Bool) (status : Status) (hidden : List (List ℕ)) (s : StandOf) (t : ℤ) (asked : AskedOf) (payload : Option PayloadOf) → is_list asked payload ≡ false
    → is_any (if over then [] else missed_by status hidden s t asked payload) ≡ false
none_missed over status hidden s t asked payload e = none_if over (missed_by status hidden s t asked payload) (none_by status hidden s t asked payload e)

pub is_missing_none : (sight : SightOf) (s : StandOf) (t : ℤ) (ask : AskOf) (answer : AnswerOf) (ids more : List (List ℕ)) (o : Option Beside) → ids ≡ missed sight s t ask answer → is_any ids ≡ true → more ≡ ids
    → IsWith more ask answer o → IsMissing sight s t ask answer o
is_missing_none sight s t ask answer ids more None is any same h =
    let bad : true ≡ false = sym any ∙ ap is_any is ∙ none_missed s.aside.over answer.status sight.hidden s t ask.asked answer.payload h in absurd cc
is_missing_none sight s t ask answer ids more (Some b) is any same h = (ap is_any (sym is) ∙ any, h.0, h.1 ∙ ap (λ (xs : List (List ℕ)). answer_with xs answer) (same ∙ is))

pub with_these : (more : List (List ℕ)) (ask : AskOf) (answer : AnswerOf) (q : FilterOf) (ids : List (List ℕ)) → ask.asked ≡ locates q → answer.payload ≡ Some (located ids)
    → (made : FilterOf) → made ≡ record q { maximum = None } → (listed : List (List ℕ)) → listed ≡ ids ++ more
    → (record ask { asked = locates made } ≡ ask_with ask) × (record answer { payload = Some (located listed) } ≡ answer_with more answer)
with_these more ask answer q ids asks lists made any listed is = (
  ap (λ (a : AskedOf). record ask { asked = a }) (ap locates any ∙ sym (ap asked_with asks)),
  ap (λ (p : Option PayloadOf). record answer { payload = p }) (ap (λ (xs : List (List ℕ)). Some (located xs)) is ∙ sym (ap (payload_with more) lists)),
)

pub joined : (xs ys : List (Bor (List ℕ))) → map lent (xs ++ ys) ≡ map lent xs ++ map lent ys
joined [] ys = refl
joined (x ∷ xs) ys = ap (λ (l : List (List ℕ)). lent x ∷ l) (joined xs ys)

pub not_list : (asked : AskedOf) (payload : Option PayloadOf) → payload ≡ None → is_list asked payload ≡ false
not_list (locates q) None e = refl
not_list (locates q) (Some p) e = let bad : ⊥ = cc in absurd bad
not_list asked payload e = refl

-- as the program finds it, at a moment that is this one
module _ (sight : SightOf) (s : StandOf) (ask : AskOf) (answer : AnswerOf) (moment t : ℤ) (at : moment ≡ t) (ids lists : List (Bor (List ℕ))) (is : map lent ids ≡ missed sight s moment ask answer)
    (same : lists ≡ ids) where
  these : map lent lists ≡ missed sight s t ask answer
  these = ap (map lent) same ∙ is ∙ ap (λ (z : ℤ). missed sight s z ask answer) at

  pub any_missed : (b : Bool) → b ≡ is_any (map lent lists) → b ≡ false → is_any (missed sight s t ask answer) ≡ false
  any_missed b e none = ap is_any (sym these) ∙ sym e ∙ none

  pub all_missing : {E : Type 0} (b : Bool) → b ≡ is_any (map lent lists) → b ≡ true → (more : List (Bor (List ℕ))) → more ≡ ids → (r : Result (Option Beside) E)
      → IfOk r (λ (o : Option Beside). IsWith (map lent more) ask answer o) → IfOk r (λ (o : Option Beside). IsMissing sight s t ask answer o)
  all_missing b e some more other (Ok o) h =
      is_missing_none sight s t ask answer (map lent lists) (map lent more) o these (sym e ∙ some) (ap (map lent) (other ∙ sym same)) h
  all_missing b e some more other (Err x) h = tt
