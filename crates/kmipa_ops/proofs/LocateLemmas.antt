-- Locate only looks: what is listed is right exactly where nothing speaks against it.
use Rattle.std.proofs.Common.{◌↔◌, inl, inr, zero, suc, slice_get, arith, [], ◌∷◌, ◌≡◌, ◌&&◌, ◌||◌, ◌==◌, ℕ, ℤ, Bool, true, false, not, is_some, bytes_eq, find, length, List, Option, Some, None, refl, ap, sym, ◌∙◌, subst, get_or}
use Rattle.std.specs.List.{Contains, list_any}
use Rattle.std.specs.Bool.{Decides}
use Rattle.std.specs.Ordering.{int_eq}
use Rattle.std.proofs.lemmas.Bool.{or_parts, and_parts, and_from}
use Rattle.std.proofs.lemmas.Bool.Decides.{Decides-eqb, Decides-int_eq}
use Rattle.std.proofs.lemmas.List.Folds.{Any-from_list_any, list_any_at}
use Rattle.std.proofs.lemmas.Slice.Eq.{bytes_eq-Decides}
use Rattle.kmipa_attrs.specs.ObjectTypes.{type_number}
use Rattle.kmipa_object.specs.Inventory.{Card, live}
use Rattle.kmipa_object.specs.Life.{state, state_number}
use Rattle.kmipa_object.specs.declared.state.State.{State}
use Rattle.kmipa_msgs.specs.Messages.{located}
use Rattle.kmipa_ops.specs.declared.why.Why.{Why}
use Rattle.kmipa_ops.specs.declared.why.Why.TheVariants.{ListedWrongly, ListedTooFew}
use Rattle.kmipa_ops.specs.Objects.{card_meant, is_other, clash}
use Rattle.kmipa_ops.specs.GetAttributes.{has_stranger}
use Rattle.kmipa_attrs.specs.Filters.{FilterOf}
use Rattle.kmipa_ops.specs.declared.fit.Fit.{Fit}
use Rattle.kmipa_ops.specs.declared.fit.Fit.TheVariants as fit
use Rattle.kmipa_ops.specs.Listing.{may_of, must_of}
use Rattle.kmipa_ops.specs.Locate.{IsFit, May, Must, says_no, may_fit, is_doubtful, must_fit, has_repeat, is_over, is_full, fits_here, is_listed, is_unsure, lists_misfit, leaves_out, Lists, locate_speaks, locate_look, locate_reasons, ListsAreDecided, ListsRightly, LeavesOut, LocateReason}
use Rattle.kmipa_ops.proofs.TestLemmas.{refuted, not_false, or_cases, or_right, true_not, false_if, not_true, each_if, each_not, five_parts, five_cases, three_cases, echoes_if, echoes_not, agree_if, agree_not}
use Rattle.kmipa_ops.proofs.NameLemmas.{strangers_if, strangers_not}
use Rattle.kmipa_ops.proofs.DeedLaws.{outer_whys}
use Rattle.kmipa_ops.proofs.LookLemmas.{IsLook}
use Rattle.kmipa_ops.proofs.ConditionLemmas.{never_decides}
use Rattle.kmipa_msgs.specs.Locates.{AnswersLocate}
use Rattle.kmipa_msgs.specs.Sayable.{SaysListed}

and_true : (b : Bool) → (b && true) ≡ b
and_true true = refl
and_true false = refl

and_off : (b : Bool) → (b && false) ≡ false
and_off true = refl
and_off false = refl

pub may_decides : (q : FilterOf) (s : State) (c : Card) → Decides (may_fit q s c) (May q s c)
may_decides q s c = (
  λ h.
      let w = five_parts (has_stranger c.given.names q.names) (is_other (λ (x y : ℕ). x == y) q.object_type (type_number c.kind)) (is_other (λ (x y : ℕ). x == y) q.state (state_number s))
      (clash (λ (x y : ℕ). x == y) q.algorithm c.given.algorithm) (clash int_eq q.length c.given.length) (not_true _ h) in
      record {
        names = strangers_if c.given.names q.names w.0;
        object_type = echoes_if (λ (x y : ℕ). x == y) Decides-eqb q.object_type (type_number c.kind) w.1;
        state = echoes_if (λ (x y : ℕ). x == y) Decides-eqb q.state (state_number s) w.2;
        algorithm = agree_if (λ (x y : ℕ). x == y) Decides-eqb q.algorithm c.given.algorithm w.3;
        length = agree_if int_eq Decides-int_eq q.length c.given.length w.4;
      },
  λ m.
      ap not (false_if (has_stranger c.given.names q.names || is_other (λ (x y : ℕ). x == y) q.object_type (type_number c.kind)
      || is_other (λ (x y : ℕ). x == y) q.state (state_number s)
      || clash (λ (x y : ℕ). x == y) q.algorithm c.given.algorithm || clash int_eq q.length c.given.length) (λ h.
      five_cases (has_stranger c.given.names q.names) (is_other (λ (x y : ℕ). x == y) q.object_type (type_number c.kind)) (is_other (λ (x y : ℕ). x == y) q.state (state_number s))
      (clash (λ (x y : ℕ). x == y) q.algorithm c.given.algorithm) (clash int_eq q.length c.given.length) h
      (λ e. strangers_not c.given.names q.names e m.names)
      (λ e. echoes_not (λ (x y : ℕ). x == y) Decides-eqb q.object_type (type_number c.kind) e m.object_type)
      (λ e. echoes_not (λ (x y : ℕ). x == y) Decides-eqb q.state (state_number s) e m.state)
      (λ e. agree_not (λ (x y : ℕ). x == y) Decides-eqb q.algorithm c.given.algorithm e m.algorithm)
      (λ e. agree_not int_eq Decides-int_eq q.length c.given.length e m.length))),
)

four_false : (a b c d : Bool) → (not a || b || c || d) ≡ false → (a ≡ true) × (b ≡ false) × (c ≡ false) × (d ≡ false)
four_false true false false d h = (refl, refl, refl, h)
four_false true false true d h = cc
four_false true true c d h = cc
four_false false b c d h = cc

all_four : (a b c d : Bool) → a ≡ true → b ≡ false → c ≡ false → d ≡ false → (not a || b || c || d) ≡ false
all_four true false false false h i j k = refl
all_four true false false true h i j k = cc
all_four true false true d h i j k = cc
all_four true true c d h i j k = cc
all_four false b c d h i j k = cc

-- an object that has what a filter asks for, where it asks for it
sure_if : {A : Type 0} (asked own : Option A) → is_unsure asked own ≡ false → is_some asked ≡ true → is_some own ≡ true
sure_if asked None h a = let bad : true ≡ false = sym a ∙ sym (and_true (is_some asked)) ∙ h in cc
sure_if asked (Some x) h a = refl

sure_not : {A : Type 0} (asked own : Option A) → (is_some asked ≡ true → is_some own ≡ true) → is_unsure asked own ≡ false
sure_not asked None f = false_if (is_some asked && true) (λ h. let bad : false ≡ true = f (sym (and_true (is_some asked)) ∙ h) in cc)
sure_not asked (Some x) f = and_off (is_some asked)

pub must_decides : (q : FilterOf) (s : State) (c : Card) → Decides (must_fit q s c) (Must q s c)
must_decides q s c = (
  λ h.
      let w = and_parts (may_fit q s c) (not (is_doubtful q c)) h in
      let x = four_false (live c) q.is_loose (is_unsure q.algorithm c.given.algorithm) (is_unsure q.length c.given.length) (not_true (is_doubtful q c) w.1) in
      record { may = (may_decides q s c).0 w.0; alive = x.0; strict = x.1; algorithm = sure_if q.algorithm c.given.algorithm x.2; length = sure_if q.length c.given.length x.3 },
  λ m.
      and_from (may_fit q s c) (not (is_doubtful q c)) ((may_decides q s c).1 m.may)
      (ap not (all_four (live c) q.is_loose (is_unsure q.algorithm c.given.algorithm) (is_unsure q.length c.given.length) m.alive m.strict (sure_not q.algorithm c.given.algorithm m.algorithm) (sure_not q.length c.given.length m.length))),
)

fits_at : (q : FilterOf) (t : ℤ) (o : Option Card) → Decides (fits_here q t o) ((c : Card) × (o ≡ Some c) × May q (state c.dates t) c)
fits_at q t None = (λ h. let bad : ⊥ = cc in absurd bad, λ x. let bad : ⊥ = let e = x.1 in cc in absurd bad)
fits_at q t (Some c) = (
  λ h. (c, refl, (may_decides q (state c.dates t) c).0 h),
  λ x. let same : x.0 ≡ c = let e = x.1 in cc in (may_decides q (state c.dates t) c).1 (subst (λ (y : Card). May q (state y.dates t) y) same x.2),
)

-- the object that an identifier has may be listed
abbrev MayBeListed : List Card → ℤ → FilterOf → List ℕ → Type 0
MayBeListed cs t q id = (c : Card) × (card_meant cs (Some id) ≡ Some c) × May q (state c.dates t) c

fits_decides : (cs : List Card) (t : ℤ) (q : FilterOf) (id : List ℕ) → Decides (fits_here q t (card_meant cs (Some id))) (MayBeListed cs t q id)
fits_decides cs t q id =
    let go : (o : Option Card) → Decides (fits_here q t o) ((c : Card) × (o ≡ Some c) × May q (state c.dates t) c) = λ o. fits_at q t o in
    go (card_meant cs (Some id))

listed_decides : (listed : List (List ℕ)) (id : List ℕ) → Decides (is_listed listed id) (Contains listed id)
listed_decides listed id = (
  λ h.
      let a = Any-from_list_any (λ (x : List ℕ). bytes_eq x id) listed h in
      subst (λ (x : List ℕ). Contains listed x) ((bytes_eq-Decides a.1 id).0 a.4) (a.0, a.2, a.3),
  λ at. list_any_at (λ (x : List ℕ). bytes_eq x id) listed at.0 id at.1 ((bytes_eq-Decides (get_or listed at.0 id) id).1 at.2),
)

implied : (a b : Bool) {A B : Type 0} → Decides a A → Decides b B → Decides (not a || b) (A → B)
implied true b a_is b_is = (λ h x. b_is.0 h, λ f. b_is.1 (f (a_is.0 refl)))
implied false b a_is b_is = (λ h x. let e : false ≡ true = a_is.1 x in let bad : ⊥ = cc in absurd bad, λ f. refl)

-- NOTHING TWICE

-- an identifier stands at some place
stands_at : (xs : List (List ℕ)) (x : List ℕ) → list_any (bytes_eq x) xs ≡ true → (i : ℕ) × (slice_get xs i ≡ Some x)
stands_at [] x h = let bad : ⊥ = cc in absurd bad
stands_at (y ∷ ys) x h = elim (or_cases (bytes_eq x y) (list_any (bytes_eq x) ys) h) [
  | inl e ↦ (0, ap Some (sym ((bytes_eq-Decides x y).0 e)))
  | inr e ↦ let r = stands_at ys x e in (suc r.0, r.1)
]

found_at : (xs : List (List ℕ)) (x : List ℕ) (i : ℕ) → slice_get xs i ≡ Some x → list_any (bytes_eq x) xs ≡ true
found_at [] x i e = cc
found_at (y ∷ ys) x zero e = let same : x ≡ y = cc in ap (λ (b : Bool). b || list_any (bytes_eq x) ys) ((bytes_eq-Decides x y).1 same)
found_at (y ∷ ys) x (suc i) e = or_right (bytes_eq x y) (list_any (bytes_eq x) ys) (found_at ys x i e)

abbrev Once : List (List ℕ) → Type 0
Once xs = (i j : ℕ) (id : List ℕ) → slice_get xs i ≡ Some id → slice_get xs j ≡ Some id → i ≡ j

once_if : (xs : List (List ℕ)) → has_repeat xs ≡ false → Once xs
once_if [] h i j id e f = cc
once_if (y ∷ ys) h zero zero id e f = refl
once_if (y ∷ ys) h zero (suc j) id e f =
    let w = or_parts (list_any (bytes_eq y) ys) (has_repeat ys) h in
    let same : id ≡ y = cc in
    absurd (true_not (list_any (bytes_eq y) ys) (found_at ys y j (f ∙ ap Some same)) w.0)
once_if (y ∷ ys) h (suc i) zero id e f =
    let w = or_parts (list_any (bytes_eq y) ys) (has_repeat ys) h in
    let same : id ≡ y = cc in
    absurd (true_not (list_any (bytes_eq y) ys) (found_at ys y i (e ∙ ap Some same)) w.0)
once_if (y ∷ ys) h (suc i) (suc j) id e f = ap suc (once_if ys (or_parts (list_any (bytes_eq y) ys) (has_repeat ys) h).1 i j id e f)

once_not : (xs : List (List ℕ)) → has_repeat xs ≡ true → Once xs → ⊥
once_not [] h once = cc
once_not (y ∷ ys) h once = elim (or_cases (list_any (bytes_eq y) ys) (has_repeat ys) h) [
  | inl e ↦ let r = stands_at ys y e in let bad : 0 ≡ suc r.0 = once 0 (suc r.0) y refl r.1 in absurd (omega arith)
  | inr e ↦ once_not ys e (λ i j id p q. let r : suc i ≡ suc j = once (suc i) (suc j) id p q in omega arith)
]

-- LISTS

module _ (cs : List Card) (t : ℤ) (q : FilterOf) (listed : List (List ℕ)) where
  abbrev fitting : List ℕ → Bool
  fitting id = fits_here q t (card_meant cs (Some id))

  abbrev covered : Card → Bool
  covered c = not (must_fit q (state c.dates t) c) || is_listed listed c.id

  covered_decides : (c : Card) → Decides (covered c) (Must q (state c.dates t) c → Contains listed c.id)
  covered_decides c = implied (must_fit q (state c.dates t) c) (is_listed listed c.id) (must_decides q (state c.dates t) c) (listed_decides listed c.id)

  rightly : locate_speaks cs t q (Some listed) ListedWrongly ≡ false → ListsRightly cs t q listed
  rightly wrongly =
      let w = or_parts (has_repeat listed || is_over q.maximum (length listed)) (lists_misfit cs t q listed) wrongly in
      let x = or_parts (has_repeat listed) (is_over q.maximum (length listed)) w.0 in
      record { once = once_if listed x.0; most = x.1; fits = λ id at. each_if fitting (MayBeListed cs t q) (fits_decides cs t q) listed w.1 id at }

  not_rightly : locate_speaks cs t q (Some listed) ListedWrongly ≡ true → ListsRightly cs t q listed → ⊥
  not_rightly h x =
      three_cases (has_repeat listed) (is_over q.maximum (length listed)) (lists_misfit cs t q listed) h
      (λ e. once_not listed e x.once)
      (λ e. true_not (is_over q.maximum (length listed)) e x.most)
      (λ e. each_not fitting (MayBeListed cs t q) (fits_decides cs t q) listed e x.fits)

  right : locate_speaks cs t q (Some listed) ListedWrongly ≡ false → locate_speaks cs t q (Some listed) ListedTooFew ≡ false → Lists cs t q listed
  right wrongly few = record {
    right = rightly wrongly;
    all = λ short c at must.
        each_if covered (λ (d : Card). Must q (state d.dates t) d → Contains listed d.id) covered_decides cs
        (ap (λ (b : Bool). not b && leaves_out cs t q listed) (sym short) ∙ few) c at must;
  }

  wrong : (w : Why) → locate_speaks cs t q (Some listed) w ≡ true → Lists cs t q listed → ⊥
  wrong ListedWrongly h x = not_rightly h x.right
  wrong ListedTooFew h x =
      let w = and_parts (not (is_full q.maximum (length listed))) (leaves_out cs t q listed) h in
      each_not covered (λ (d : Card). Must q (state d.dates t) d → Contains listed d.id) covered_decides cs w.1 (x.all (not_true (is_full q.maximum (length listed)) w.0))
  wrong w h x = cc

  -- each of the two reasons by itself
  wrongly_decides : Decides (locate_speaks cs t q (Some listed) ListedWrongly) (ListsRightly cs t q listed → ⊥)
  wrongly_decides =
      refuted (locate_speaks cs t q (Some listed) ListedWrongly) rightly (λ x. false_if (locate_speaks cs t q (Some listed) ListedWrongly) (λ h. not_rightly h x))

  few_decides : Decides (locate_speaks cs t q (Some listed) ListedTooFew) (LeavesOut cs t q listed)
  few_decides = (
    λ h.
        let w = and_parts (not (is_full q.maximum (length listed))) (leaves_out cs t q listed) h in
        let a = Any-from_list_any (λ (c : Card). not (covered c)) cs w.1 in
        let v = or_parts (not (must_fit q (state a.1.dates t) a.1)) (is_listed listed a.1.id) (not_true (covered a.1) a.4) in (
          not_true (is_full q.maximum (length listed)) w.0,
          a.1,
          (a.0, a.2, a.3),
          (must_decides q (state a.1.dates t) a.1).0 (not_false (must_fit q (state a.1.dates t) a.1) v.0),
          λ at. true_not (is_listed listed a.1.id) ((listed_decides listed a.1.id).1 at) v.1,
        ),
    λ x.
        let at : Contains cs x.1 = x.2 in
        let must : must_fit q (state x.1.dates t) x.1 ≡ true = (must_decides q (state x.1.dates t) x.1).1 x.3 in
        let out : is_listed listed x.1.id ≡ false = false_if (is_listed listed x.1.id) (λ e. x.4 ((listed_decides listed x.1.id).0 e)) in
        let open_ : covered x.1 ≡ false = λ i. not (must i) || out i in
        and_from (not (is_full q.maximum (length listed))) (leaves_out cs t q listed) (ap not x.0)
        (list_any_at (λ (c : Card). not (covered c)) cs at.0 x.1 at.1 (ap (λ (c : Card). not (covered c)) at.2 ∙ ap not open_)),
  )

  -- where a list is right no reason speaks against it
  pub lists_decide : ((w : Why) → locate_speaks cs t q (Some listed) w ≡ false) ↔ Lists cs t q listed
  lists_decide = (
    λ silent. right (silent ListedWrongly) (silent ListedTooFew),
    λ x w. false_if (locate_speaks cs t q (Some listed) w) (λ h. wrong w h x),
  )

pub lists_are_decided : ListsAreDecided
lists_are_decided cs t q listed = lists_decide cs t q listed

quiet_locate : (cs : List Card) (t : ℤ) (q : FilterOf) (shown : Option (List (List ℕ))) → find (locate_speaks cs t q shown) outer_whys ≡ None
quiet_locate cs t q None = refl
quiet_locate cs t q (Some listed) = refl

none_speaks : (cs : List Card) (t : ℤ) (q : FilterOf) (w : Why) → locate_speaks cs t q None w ≡ false
none_speaks cs t q w = refl

-- its test says what its reasons mean
locate_decides : (cs : List Card) (t : ℤ) (q : FilterOf) (shown : Option (List (List ℕ))) (why : Why) → Decides (locate_speaks cs t q shown why) (LocateReason cs t q shown why)
locate_decides cs t q None why = never_decides
locate_decides cs t q (Some listed) ListedWrongly = wrongly_decides cs t q listed
locate_decides cs t q (Some listed) ListedTooFew = few_decides cs t q listed
locate_decides cs t q (Some listed) why = never_decides

pub is_locate : (q : FilterOf) → IsLook (locate_look q) (locate_reasons q) AnswersLocate SaysListed
is_locate q = record {
  back = λ x. refl;
  each = elim [ located x ↦ inl (x, refl) | _ ↦ inr (refl, λ ts s. s) ];
  carries = λ x. (λ h. (h, tt), λ h. h.0);
  quiet = λ cs before t shown. quiet_locate cs t q shown;
  covers = λ cs before t x w h. let e = none_speaks cs t q w in let bad : true ≡ false = sym h ∙ e in cc;
  right = λ cs before t x silent. (lists_decide cs t q x).0 silent;
  wrong = λ cs before t x w h y. wrong cs t q x w h y;
  hidden = λ cs before t may silent. let bad : ⊥ = cc in absurd bad;
  keeps = λ before x may. let bad : ⊥ = cc in absurd bad;
  decides = λ cs before t shown w. locate_decides cs t q shown w;
}

-- HOW AN OBJECT FITS

module _ (q : FilterOf) (s : State) (c : Card) where
  pub fits_not : says_no q s c ≡ true → May q s c → ⊥
  fits_not e m = true_not (may_fit q s c) ((may_decides q s c).1 m) (ap not e)

  pub fits_may : says_no q s c ≡ false → is_doubtful q c ≡ true → May q s c × (Must q s c → ⊥)
  fits_may e d = ((may_decides q s c).0 (ap not e), λ m. true_not (must_fit q s c) ((must_decides q s c).1 m) (ap (λ (b : Bool). may_fit q s c && not b) d ∙ and_off (may_fit q s c)))

  pub fits_must : says_no q s c ≡ false → is_doubtful q c ≡ false → Must q s c
  fits_must e d = (must_decides q s c).0 (and_from (may_fit q s c) (not (is_doubtful q c)) (ap not e) (ap not d))

  pub fit_tells : (f : Fit) → IsFit q s c f → (may_fit q s c ≡ may_of f) × (must_fit q s c ≡ must_of f)
  fit_tells fit.Must x = ((may_decides q s c).1 x.may, (must_decides q s c).1 x)
  fit_tells fit.May x = ((may_decides q s c).1 x.0, false_if (must_fit q s c) (λ h. x.1 ((must_decides q s c).0 h)))
  fit_tells fit.Not x =
      let no : may_fit q s c ≡ false = false_if (may_fit q s c) (λ h. x ((may_decides q s c).0 h)) in
      (no, ap (λ (b : Bool). b && not (is_doubtful q c)) no)
