-- What a Locate lists, as the program finds it.
use Rattle.std.proofs.Common.{map, get_or, ◌⊎◌, ◌≡◌, ◌≤◌, ◌<◌, ◌+◌, ◌&&◌, ◌||◌, ◌==◌, ℕ, zero, suc, ℤ, Bool, true, false, not, cond, find, length, take, drop, List, [], ◌∷◌, ◌++◌, slice_get, bytes_eq, Option, Some, None, option_map, refl, ap, sym, ◌∙◌, subst, inl, inr, arith}
use Rattle.std.specs.List.{list_any, position_from}
use Rattle.std.proofs.lemmas.Bool.Decides.{Decides-eqb, nat_tests}
use Rattle.std.proofs.lemmas.Slice.Eq.{bytes_eq-Decides}
use Rattle.kmipa_attrs.specs.Sets.{NameOf, name_of}
use Rattle.kmipa_attrs.specs.declared.name.Name.{Name}
use Rattle.kmipa_attrs.specs.Filters.{FilterOf}
use Rattle.kmipa_object.specs.Inventory.{Card, live, place_of}
use Rattle.kmipa_object.specs.Life.{state}
use Rattle.kmipa_object.proofs.ListLemmas.{get_below}
use Rattle.kmipa_store.specs.Ledger.{Held, Meaning, cards_of}
use Rattle.kmipa_store.specs.Choices.{IsSound}
use Rattle.kmipa_store.proofs.InventoryLemmas.{get-cards_of, place_found, place_none}
use Rattle.kmipa_ops.specs.declared.why.Why.TheVariants.{ListedWrongly, ListedTooFew}
use Rattle.kmipa_ops.specs.Whys.{whys}
use Rattle.kmipa_object.specs.declared.state.State.{State}
use Rattle.kmipa_store.specs.Queries.{has_name, has_name_alive, next_live_named, next_named}
use Rattle.kmipa_ops.specs.Objects.{card_meant, same_name}
use Rattle.kmipa_ops.specs.GetAttributes.{has_stranger}
use Rattle.std.specs.Option.{option_and_then}
use Rattle.kmipa_ops.specs.declared.fit.Fit.{Fit}
use Rattle.kmipa_ops.proofs.LocateLemmas.{fit_tells}
use Rattle.kmipa_ops.proofs.NameLemmas.{same_both}
use Rattle.kmipa_ops.specs.Locate.{says_no, is_doubtful, is_unsure, may_fit, must_fit, fits_here, is_listed, is_over, is_full, has_repeat, lists_misfit, leaves_out, locate_speaks}
use Rattle.kmipa_ops.specs.declared.places_listed.PlacesListed.{PlacesListed}
use Rattle.kmipa_ops.specs.Listing.{is_among, is_place, PlaceListed, ArePlaced, NextCandidate, CoveredTo, LeavesOut, IsMissing, FitsAt, may_of, must_of}
use Rattle.kmipa_ops.proofs.TestLemmas.{or_cases, or_right, same_truth, true_not, false_if}
use Rattle.kmipa_ops.proofs.ScanLemmas.{any_map, any_same, or_mix}

or_last : (b : Bool) → (b || false) ≡ (false || b)
or_last true = refl
or_last false = refl

or_assoc : (a b c : Bool) → (a || (b || c)) ≡ ((a || b) || c)
or_assoc true b c = refl
or_assoc false b c = refl

cond_or : (a b : Bool) → cond a true b ≡ (b || a)
cond_or true true = refl
cond_or true false = refl
cond_or false true = refl
cond_or false false = refl

outer_two : (a b c : Bool) → (a || c) ≡ true → (a || b || c) ≡ true
outer_two true b c h = refl
outer_two false true c h = refl
outer_two false false c h = h

none_of : (a b c : Bool) → a ≡ false → b ≡ false → c ≡ false → (a || b || c) ≡ false
none_of false false c p q r = r
none_of false true c p q r = cc
none_of true b c p q r = cc

covered_if : (must listed : Bool) → (must ≡ true → listed ≡ true) → not (not must || listed) ≡ false
covered_if true listed f = ap not (f refl)
covered_if false listed f = refl

pub false_right : (a b : Bool) → b ≡ false → (a && b) ≡ false
false_right true b e = e
false_right false b e = refl

second_true : (a b c d : Bool) → b ≡ true → (a || b || c || d) ≡ true
second_true true b c d h = refl
second_true false true c d h = refl
second_true false false c d h = cc

five_true : (a b c d e : Bool) → a ≡ true → (a || b || c || d || e) ≡ true
five_true true b c d e h = refl
five_true false b c d e h = cc

-- ELEMENTS OF LISTS

module _ {X : Type 0} (p : X → Bool) where
  pub any_at : (xs : List X) (i : ℕ) (x : X) → slice_get xs i ≡ Some x → p x ≡ true → list_any p xs ≡ true
  any_at [] i x e h = cc
  any_at (y ∷ ys) zero x e h = let same : x ≡ y = cc in ap (λ (b : Bool). b || list_any p ys) (ap p (sym same) ∙ h)
  any_at (y ∷ ys) (suc i) x e h = or_right (p y) (list_any p ys) (any_at ys i x e h)

  any_some : (xs : List X) → list_any p xs ≡ true → (i : ℕ) × (x : X) × (slice_get xs i ≡ Some x) × (p x ≡ true)
  any_some [] h = let bad : ⊥ = cc in absurd bad
  any_some (y ∷ ys) h = elim (or_cases (p y) (list_any p ys) h) [
    | inl e ↦ (0, y, refl, e)
    | inr e ↦ let r = any_some ys e in (suc r.0, r.1, r.2, r.3)
  ]

  any_none : (xs : List X) → ((i : ℕ) (x : X) → slice_get xs i ≡ Some x → p x ≡ false) → list_any p xs ≡ false
  any_none xs f = false_if (list_any p xs) (λ h. let r = any_some xs h in true_not (p r.1) r.3 (f r.0 r.1 r.2))

  any_push : (xs : List X) (x : X) → list_any p (xs ++ x ∷ []) ≡ (list_any p xs || p x)
  any_push [] x = or_last (p x)
  any_push (y ∷ ys) x = ap (λ (b : Bool). p y || b) (any_push ys x) ∙ or_assoc (p y) (list_any p ys) (p x)

  any_front : (xs ys : List X) → list_any p xs ≡ true → list_any p (xs ++ ys) ≡ true
  any_front [] ys h = cc
  any_front (x ∷ xs) ys h = elim (or_cases (p x) (list_any p xs) h) [
    | inl e ↦ ap (λ (b : Bool). b || list_any p (xs ++ ys)) e
    | inr e ↦ or_right (p x) (list_any p (xs ++ ys)) (any_front xs ys e)
  ]

-- one more element
taken : {X : Type 0} (xs : List X) (i : ℕ) (x : X) → slice_get xs i ≡ Some x → take (i + 1) xs ≡ take i xs ++ x ∷ []
taken [] i x e = cc
taken (y ∷ ys) zero x e = let same : y ≡ x = cc in ap (λ z. z ∷ []) same
taken {X} (y ∷ ys) (suc i) x e =
    let more : suc i + 1 ≡ suc (i + 1) = omega arith in
    ap (λ (n : ℕ). take n (y ∷ ys)) more ∙ ap (λ (zs : List X). y ∷ zs) (taken ys i x e)

split : {X : Type 0} (xs : List X) (i : ℕ) → take i xs ++ drop i xs ≡ xs
split xs zero = refl
split [] (suc i) = refl
split (x ∷ xs) (suc i) = ap (λ zs. x ∷ zs) (split xs i)

all_taken : {X : Type 0} (xs : List X) (i : ℕ) → length xs ≤ i → take i xs ≡ xs
all_taken [] zero h = refl
all_taken [] (suc i) h = refl
all_taken (x ∷ xs) zero h = absurd (omega arith)
all_taken (x ∷ xs) (suc i) h = ap (λ zs. x ∷ zs) (all_taken xs i (omega arith))

-- IDENTIFIERS THAT STAND TWICE

repeat_push : (xs : List (List ℕ)) (x : List ℕ) → has_repeat (xs ++ x ∷ []) ≡ (has_repeat xs || list_any (λ (y : List ℕ). bytes_eq y x) xs)
repeat_push [] x = refl
repeat_push (y ∷ ys) x =
    let same : List ℕ → Bool = λ z. bytes_eq z x in
    ap (λ (b : Bool). b || has_repeat (ys ++ x ∷ [])) (any_push (bytes_eq y) ys x)
    ∙ ap (λ (b : Bool). (list_any (bytes_eq y) ys || bytes_eq y x) || b) (repeat_push ys x)
    ∙ or_mix (list_any (bytes_eq y) ys) (bytes_eq y x) (has_repeat ys) (list_any same ys)

repeat_front : (xs ys : List (List ℕ)) → has_repeat xs ≡ true → has_repeat (xs ++ ys) ≡ true
repeat_front [] ys h = cc
repeat_front (x ∷ xs) ys h = elim (or_cases (list_any (bytes_eq x) xs) (has_repeat xs) h) [
  | inl e ↦ ap (λ (b : Bool). b || has_repeat (xs ++ ys)) (any_front (bytes_eq x) xs ys e)
  | inr e ↦ or_right (list_any (bytes_eq x) (xs ++ ys)) (has_repeat (xs ++ ys)) (repeat_front xs ys e)
]

-- PLACES

is_place_if : (p : ℕ) (o : Option ℕ) → is_place p o ≡ true → o ≡ Some p
is_place_if p None h = let bad : ⊥ = cc in absurd bad
is_place_if p (Some n) h = ap Some (sym ((Decides-eqb p n).0 h))

is_place_at : (p : ℕ) (o : Option ℕ) → o ≡ Some p → is_place p o ≡ true
is_place_at p o e = ap (is_place p) e ∙ (Decides-eqb p p).1 refl

-- an identifier has a place exactly where it is that of another that has it
place_is : (cs : List Card) (x : List ℕ) (p : ℕ) → place_of x cs ≡ Some p → (y : List ℕ) → bytes_eq y x ≡ is_place p (place_of y cs)
place_is cs x p at y =
    same_truth (bytes_eq y x) (is_place p (place_of y cs))
    (λ h. is_place_at p (place_of y cs) (ap (λ (z : List ℕ). place_of z cs) ((bytes_eq-Decides y x).0 h) ∙ at))
    (λ h.
    let a = place_found cs x p at in
    let b = place_found cs y p (is_place_if p (place_of y cs) h) in
    let same : Some a.0 ≡ Some b.0 = sym a.1 ∙ b.1 in
    let e : b.0 ≡ a.0 = cc in
    (bytes_eq-Decides y x).1 ((bytes_eq-Decides y b.0.id).0 b.2 ∙ ap (λ (c : Card). c.id) e ∙ sym ((bytes_eq-Decides x a.0.id).0 a.2)))

same_key : (p k : ℕ) → (p == k) ≡ (k == p)
same_key p k = grind (arith, nat_tests)

module _ (cs : List Card) (t : ℤ) (q : FilterOf) where
  abbrev misfit : List ℕ → Bool
  misfit id = not (fits_here q t (card_meant cs (Some id)))

  pub placed_none : (places : PlacesListed) → ((p : ℕ) → is_among places p ≡ false) → ArePlaced cs t q [] places
  placed_none places none = record { once = refl; fits = refl; has = none }

  -- one more that fits, at a place that is new
  pub placed_more : (ids : List (List ℕ)) (i : ℕ) (x : List ℕ) (p : ℕ) (old new : PlacesListed) → slice_get ids i ≡ Some x → ArePlaced cs t q (take i ids) old → PlaceListed cs t q x (Some p)
      → is_among old p ≡ false → ((k : ℕ) → is_among new k ≡ cond (p == k) true (is_among old k)) → ArePlaced cs t q (take (i + 1) ids) new
  placed_more ids i x p old new at a listed absent updates =
      let xs : List (List ℕ) = take i ids in
      let none : list_any (λ (y : List ℕ). bytes_eq y x) xs ≡ false =
      any_same (λ (y : List ℕ). bytes_eq y x) (λ (y : List ℕ). is_place p (place_of y cs)) (place_is cs x p listed.1) xs ∙ sym (a.has p) ∙ absent in
      let P : List (List ℕ) → Type 0 = λ ys. ArePlaced cs t q ys new in
      subst P (sym (taken ids i x at)) (record {
        once = repeat_push xs x ∙ ap (λ (b : Bool). b || list_any (λ (y : List ℕ). bytes_eq y x) xs) a.once ∙ none;
        fits = any_push misfit xs x ∙ ap (λ (b : Bool). b || misfit x) a.fits ∙ ap not listed.0;
        has = λ k.
            updates k ∙ ap (λ (b : Bool). cond b true (is_among old k)) (same_key p k) ∙ cond_or (k == p) (is_among old k)
            ∙ ap (λ (b : Bool). b || (k == p)) (a.has k) ∙ ap (λ (o : Option ℕ). list_any (λ (y : List ℕ). is_place k (place_of y cs)) xs || is_place k o) (sym listed.1)
            ∙ sym (any_push (λ (y : List ℕ). is_place k (place_of y cs)) xs x);
      })

  -- one that doesn't fit, or that stands twice
  pub wrong_misfit : (ids : List (List ℕ)) (i : ℕ) (x : List ℕ) → slice_get ids i ≡ Some x → PlaceListed cs t q x None → (has_repeat ids || lists_misfit cs t q ids) ≡ true
  wrong_misfit ids i x at listed = or_right (has_repeat ids) (lists_misfit cs t q ids) (any_at misfit ids i x at (ap not listed))

  pub wrong_repeat : (ids : List (List ℕ)) (i : ℕ) (x : List ℕ) (p : ℕ) (old : PlacesListed) → slice_get ids i ≡ Some x → ArePlaced cs t q (take i ids) old → PlaceListed cs t q x (Some p)
      → is_among old p ≡ true → (has_repeat ids || lists_misfit cs t q ids) ≡ true
  wrong_repeat ids i x p old at a listed there =
      let xs : List (List ℕ) = take i ids in
      let some : list_any (λ (y : List ℕ). bytes_eq y x) xs ≡ true =
      any_same (λ (y : List ℕ). bytes_eq y x) (λ (y : List ℕ). is_place p (place_of y cs)) (place_is cs x p listed.1) xs ∙ sym (a.has p) ∙ there in
      let twice : has_repeat (take (i + 1) ids) ≡ true = ap has_repeat (taken ids i x at) ∙ repeat_push xs x ∙ or_right (has_repeat xs) (list_any (λ (y : List ℕ). bytes_eq y x) xs) some in
      let whole : has_repeat ids ≡ true = ap has_repeat (sym (split ids (i + 1))) ∙ repeat_front (take (i + 1) ids) (drop (i + 1) ids) twice in
      ap (λ (b : Bool). b || lists_misfit cs t q ids) whole

  pub placed_all : (ids : List (List ℕ)) (i : ℕ) (places : PlacesListed) → length ids ≤ i → ArePlaced cs t q (take i ids) places → ArePlaced cs t q ids places
  placed_all ids i places h a = let P : List (List ℕ) → Type 0 = λ ys. ArePlaced cs t q ys places in subst P (all_taken ids i h) a

-- WHAT IS LEFT OUT

-- the object of a card
held_of : (o : Option Held) (c : Card) → option_map (λ (g : Held). g.card) o ≡ Some c → (h : Held) × (o ≡ Some h) × (h.card ≡ c)
held_of None c e = let bad : ⊥ = cc in absurd bad
held_of (Some h) c e = (h, refl, cc)

held_at : (hs : List Held) (p : ℕ) (c : Card) → slice_get (cards_of hs) p ≡ Some c → (h : Held) × (slice_get hs p ≡ Some h) × (h.card ≡ c)
held_at hs p c e = held_of (slice_get hs p) c (sym (get-cards_of hs p) ∙ e)

-- the place of an object's own identifier is its own
own_at : (m : Meaning) (p : ℕ) (h : Held) → IsSound m → slice_get m.objects p ≡ Some h → (o : Option ℕ) → place_of h.card.id (cards_of m.objects) ≡ o → o ≡ Some p
own_at m p h sound at None e =
    let here : slice_get (cards_of m.objects) p ≡ Some h.card = get-cards_of m.objects p ∙ ap (option_map (λ (g : Held). g.card)) at in
    absurd (true_not (bytes_eq h.card.id h.card.id) ((bytes_eq-Decides h.card.id h.card.id).1 refl) (place_none (cards_of m.objects) h.card.id e p h.card here))
own_at m p h sound at (Some k) e =
    let c = place_found (cards_of m.objects) h.card.id k e in
    let g = held_at m.objects k c.0 c.1 in
    let same : h.card.id ≡ g.0.card.id = (bytes_eq-Decides h.card.id c.0.id).0 c.2 ∙ ap (λ (z : Card). z.id) (sym g.2) in
    ap Some (sym (sound.distinct p k h g.0 at g.1 same))

own_place : (m : Meaning) (p : ℕ) (h : Held) → IsSound m → slice_get m.objects p ≡ Some h → place_of h.card.id (cards_of m.objects) ≡ Some p
own_place m p h sound at = own_at m p h sound at (place_of h.card.id (cards_of m.objects)) refl

module _ (m : Meaning) (t : ℤ) (q : FilterOf) (listed : List (List ℕ)) (places : PlacesListed) (sound : IsSound m) (a : ArePlaced (cards_of m.objects) t q listed places) where
  abbrev cs : List Card
  cs = cards_of m.objects

  abbrev uncovered : Card → Bool
  uncovered c = not (not (must_fit q (state c.dates t) c) || is_listed listed c.id)

  card_at : (p : ℕ) (h : Held) → slice_get m.objects p ≡ Some h → slice_get cs p ≡ Some h.card
  card_at p h at = get-cards_of m.objects p ∙ ap (option_map (λ (g : Held). g.card)) at

  -- what is listed at its place, and back
  listed_there : (p : ℕ) (h : Held) → slice_get m.objects p ≡ Some h → is_listed listed h.card.id ≡ is_among places p
  listed_there p h at =
      let own = own_place m p h sound at in
      any_same (λ (x : List ℕ). bytes_eq x h.card.id) (λ (x : List ℕ). is_place p (place_of x cs)) (place_is cs h.card.id p own) listed ∙ sym (a.has p)

  pub few_if : LeavesOut m.objects t q places true → leaves_out cs t q listed ≡ true
  few_if x =
      any_at uncovered cs x.0 x.1.card (card_at x.0 x.1 x.2)
      (ap (λ (b : Bool). not (not b || is_listed listed x.1.card.id)) x.3 ∙ ap not (listed_there x.0 x.1 x.2 ∙ x.4))

  pub few_not : LeavesOut m.objects t q places false → leaves_out cs t q listed ≡ false
  few_not f =
      any_none uncovered cs (λ p c e.
      let h = held_at m.objects p c e in
      let must : Bool = must_fit q (state c.dates t) c in
      covered_if must (is_listed listed c.id) (λ y.
      let P : Card → Type 0 = λ z. must_fit q (state z.dates t) z ≡ true in
      let Q : Card → Type 0 = λ z. is_listed listed z.id ≡ true in
      subst Q h.2 (listed_there p h.0 h.1 ∙ f p h.0 h.1 (subst P (sym h.2) y))))

-- THE LOWEST REASON

module _ (cs : List Card) (t : ℤ) (q : FilterOf) (listed : List (List ℕ)) where
  abbrev wrongly : Bool
  wrongly = has_repeat listed || is_over q.maximum (length listed) || lists_misfit cs t q listed

  abbrev few : Bool
  few = not (is_full q.maximum (length listed)) && leaves_out cs t q listed

  whys_of_locate : find (locate_speaks cs t q (Some listed)) whys ≡ cond wrongly (Some ListedWrongly) (cond few (Some ListedTooFew) None)
  whys_of_locate = refl

  pub why_over : is_over q.maximum (length listed) ≡ true → Some ListedWrongly ≡ find (locate_speaks cs t q (Some listed)) whys
  why_over e =
      let w : wrongly ≡ true = ap (λ (b : Bool). b || lists_misfit cs t q listed) (or_right (has_repeat listed) (is_over q.maximum (length listed)) e) in
      ap (λ (b : Bool). cond b (Some ListedWrongly) (cond few (Some ListedTooFew) None)) (sym w)

  pub why_wrong : (has_repeat listed || lists_misfit cs t q listed) ≡ true → Some ListedWrongly ≡ find (locate_speaks cs t q (Some listed)) whys
  why_wrong e =
      let w : wrongly ≡ true = outer_two (has_repeat listed) (is_over q.maximum (length listed)) (lists_misfit cs t q listed) e in
      ap (λ (b : Bool). cond b (Some ListedWrongly) (cond few (Some ListedTooFew) None)) (sym w)

  not_wrong : (places : PlacesListed) → is_over q.maximum (length listed) ≡ false → ArePlaced cs t q listed places → wrongly ≡ false
  not_wrong places e a = none_of (has_repeat listed) (is_over q.maximum (length listed)) (lists_misfit cs t q listed) a.once e a.fits

  pub why_full : (places : PlacesListed) → is_over q.maximum (length listed) ≡ false → ArePlaced cs t q listed places → is_full q.maximum (length listed) ≡ true
      → None ≡ find (locate_speaks cs t q (Some listed)) whys
  why_full places e a full =
      sym (ap (λ (b : Bool). cond b (Some ListedWrongly) (cond few (Some ListedTooFew) None)) (not_wrong places e a)
      ∙ ap (λ (b : Bool). cond (not b && leaves_out cs t q listed) (Some ListedTooFew) None) full)

  pub why_few : (places : PlacesListed) (b : Bool) → is_over q.maximum (length listed) ≡ false → ArePlaced cs t q listed places → is_full q.maximum (length listed) ≡ false → leaves_out cs t q listed ≡ b
      → cond b (Some ListedTooFew) None ≡ find (locate_speaks cs t q (Some listed)) whys
  why_few places b e a full out =
      sym (ap (λ (x : Bool). cond x (Some ListedWrongly) (cond few (Some ListedTooFew) None)) (not_wrong places e a)
      ∙ ap (λ (x : Bool). cond (not x && leaves_out cs t q listed) (Some ListedTooFew) None) full
      ∙ ap (λ (x : Bool). cond x (Some ListedTooFew) None) out)

-- CANDIDATES

-- the first place from one on whose element passes a test
module _ {X : Type 0} (p : X → Bool) where
  behind : (i : ℕ) (y : X) (ys : List X) (o : Option ℕ) → (p y ≡ true → ⊥) → position_from p i (y ∷ ys) ≡ o → position_from p (i + 1) ys ≡ o
  behind i y ys o not_here e = ap (λ (b : Bool). cond b (Some i) (position_from p (i + 1) ys)) (sym (false_if (p y) not_here)) ∙ e

  later : (y : X) (ys : List X) (i n : ℕ) → p y ≡ false → ((j : ℕ) (z : X) → i + 1 + j < n → slice_get ys j ≡ Some z → p z ≡ false) → (k : ℕ) (x : X) → i + k < n → slice_get (y ∷ ys) k ≡ Some x → p x ≡ false
  later y ys i n is f zero x h at = let same : y ≡ x = cc in ap p (sym same) ∙ is
  later y ys i n is f (suc k) x h at = f k x (omega arith) at

  pub position_none : (xs : List X) (i : ℕ) → position_from p i xs ≡ None → (k : ℕ) (x : X) → slice_get xs k ≡ Some x → p x ≡ false
  position_none [] i e k x at = let bad : ⊥ = cc in absurd bad
  position_none (y ∷ ys) i e zero x at =
      let same : y ≡ x = cc in
      ap p (sym same) ∙ false_if (p y) (λ h. let bad : Some i ≡ None = ap (λ (b : Bool). cond b (Some i) (position_from p (i + 1) ys)) (sym h) ∙ e in cc)
  position_none (y ∷ ys) i e (suc k) x at = position_none ys (i + 1) (behind i y ys None (λ h. let bad : Some i ≡ None = ap (λ (b : Bool). cond b (Some i) (position_from p (i + 1) ys)) (sym h) ∙ e in cc) e) k x at

  pub position_some : (xs : List X) (i n : ℕ) → position_from p i xs ≡ Some n → (i ≤ n) × ((k : ℕ) (x : X) → i + k < n → slice_get xs k ≡ Some x → p x ≡ false)
  position_some [] i n e = let bad : ⊥ = cc in absurd bad
  position_some (y ∷ ys) i n e =
      (elim (p y) as (λ b. p y ≡ b → cond b (Some i) (position_from p (i + 1) ys) ≡ Some n → (i ≤ n) × ((k : ℕ) (x : X) → i + k < n → slice_get (y ∷ ys) k ≡ Some x → p x ≡ false)) [
        | true ↦ λ is q. let same : i ≡ n = cc in (omega arith, λ k x h at. absurd (omega arith))
        | false ↦ λ is q.
            let r = position_some ys (i + 1) n q in
            let first : i + 1 ≤ n = r.0 in
            (omega arith, λ k x h at. later y ys i n is (λ j z below there. r.1 j z below there) k x h at)
      ]) refl e

pub dropped : {X : Type 0} (xs : List X) (from p : ℕ) (x : X) → from ≤ p → slice_get xs p ≡ Some x → (k : ℕ) × (from + k ≡ p) × (slice_get (drop from xs) k ≡ Some x)
dropped xs zero p x h at = (p, omega arith, at)
dropped [] (suc from) p x h at = let bad : ⊥ = cc in absurd bad
dropped (y ∷ ys) (suc from) zero x h at = absurd (omega arith)
dropped (y ∷ ys) (suc from) (suc p) x h at = let r = dropped ys from p x (omega arith) at in let e : from + r.0 ≡ p = r.1 in (r.0, omega arith, r.2)

pub no_stranger : (q : FilterOf) (s : State) (c : Card) → has_stranger c.given.names q.names ≡ true → must_fit q s c ≡ false
no_stranger q s c e =
    let says : says_no q s c ≡ true = five_true (has_stranger c.given.names q.names) _ _ _ _ e in
    ap (λ (b : Bool). not b && not (is_doubtful q c)) says

-- a destroyed object is never to be listed
pub destroyed_not : (q : FilterOf) (s : State) (c : Card) → live c ≡ false → must_fit q s c ≡ false
destroyed_not q s c gone =
    let rest : Bool = is_unsure q.length c.given.length in
    let doubtful : is_doubtful q c ≡ true = ap (λ (b : Bool). not b || q.is_loose || is_unsure q.algorithm c.given.algorithm || rest) gone in
    false_right (may_fit q s c) (not (is_doubtful q c)) (ap not doubtful)

-- where not all that is asked is judged, no object has to be listed
loose_not : (q : FilterOf) (s : State) (c : Card) → q.is_loose ≡ true → must_fit q s c ≡ false
loose_not q s c loose =
    let rest : Bool = is_unsure q.length c.given.length in
    let doubtful : is_doubtful q c ≡ true = second_true (not (live c)) q.is_loose (is_unsure q.algorithm c.given.algorithm) rest loose in
    false_right (may_fit q s c) (not (is_doubtful q c)) (ap not doubtful)

pub lt_or_le : (a b : ℕ) → (a < b) ⊎ (b ≤ a)
lt_or_le a zero = inr (omega arith)
lt_or_le zero (suc b) = inl (omega arith)
lt_or_le (suc a) (suc b) = elim (lt_or_le a b) [ inl h ↦ inl (omega arith) | inr h ↦ inr (omega arith) ]

-- the next place, where one name more is asked for
module _ (q : FilterOf) (n : NameOf) (i : ℕ) (asked : slice_get q.names i ≡ Some n) where
  lacks_name : (s : State) (h : Held) → has_name n.value n.kind h ≡ false → must_fit q s h.card ≡ false
  lacks_name s h lacks =
      let own : List NameOf = h.card.given.names in
      let known : list_any (λ (k : NameOf). same_name k n) own ≡ false =
      any_same (λ (k : NameOf). same_name k n) (λ (k : NameOf). same_name n k) (λ k. same_both k n) own ∙ lacks in
      no_stranger q s h.card (any_at (λ (m : NameOf). not (list_any (λ (k : NameOf). same_name k m) own)) q.names i n asked (ap not known))

  -- it lacks the name, or is destroyed
  lacks_by : (s : State) (h : Held) (b : Bool) → live h.card ≡ b → (b && has_name n.value n.kind h) ≡ false → must_fit q s h.card ≡ false
  lacks_by s h true alive e = lacks_name s h e
  lacks_by s h false alive e = destroyed_not q s h.card alive

  lacks_one : (s : State) (h : Held) → has_name_alive n.value n.kind h ≡ false → must_fit q s h.card ≡ false
  lacks_one s h e = lacks_by s h (live h.card) refl e

  module _ (hs : List Held) (t : ℤ) (from place : ℕ) (so_far : NextCandidate hs t q from (Some place)) where
    pub narrow_none : next_live_named n.value n.kind place hs ≡ None → NextCandidate hs t q from None
    narrow_none e to p h low high at = elim (lt_or_le p place) [
      | inl below ↦ so_far.1 p h low below at
      | inr above ↦
          let d = dropped hs place p h above at in
          lacks_one (state h.card.dates t) h (position_none (has_name_alive n.value n.kind) (drop place hs) place e d.0 h d.2)
    ]

    pub narrow_more : (to : ℕ) → next_live_named n.value n.kind place hs ≡ Some to → NextCandidate hs t q from (Some to)
    narrow_more to e =
        let r = position_some (has_name_alive n.value n.kind) (drop place hs) place to e in
        let on : place ≤ to = r.0 in
        let past : from ≤ place = so_far.0 in (
          omega (arith, on, past),
          λ p h low high at. elim (lt_or_le p place) [
            | inl below ↦ so_far.1 p h low below at
            | inr above ↦
                let d = dropped hs place p h above at in
                let below : place + d.0 < to = let same : place + d.0 ≡ p = d.1 in omega arith in
                lacks_one (state h.card.dates t) h (r.1 d.0 h below d.2)
          ],
        )

-- THE SCAN

-- of a Locate that asks for what isn't judged nothing is left out
pub loose_leaves : (hs : List Held) (t : ℤ) (q : FilterOf) (places : PlacesListed) → q.is_loose ≡ true → LeavesOut hs t q places false
loose_leaves hs t q places loose p h at must = absurd (true_not (must_fit q (state h.card.dates t) h.card) must (loose_not q (state h.card.dates t) h.card loose))

module _ (hs : List Held) (t : ℤ) (q : FilterOf) (places : PlacesListed) (from : ℕ) (covered : CoveredTo hs t q places from) where
  pub scan_end : NextCandidate hs t q from None → LeavesOut hs t q places false
  scan_end none p h at must = elim (lt_or_le p from) [
    | inl below ↦ covered p h below at must
    | inr above ↦ absurd (true_not (must_fit q (state h.card.dates t) h.card) must (none (suc p) p h above (omega arith) at))
  ]

  pub scan_past : length hs ≤ from → LeavesOut hs t q places false
  scan_past past p h at must = let below : p < length hs = get_below hs p h at in covered p h (omega arith) at must

  pub scan_missing : (p : ℕ) → IsMissing hs t q places p true → LeavesOut hs t q places true
  scan_missing p x = (p, x.0, x.1, x.2, x.3)

  pub scan_more : (place : ℕ) → NextCandidate hs t q from (Some place) → IsMissing hs t q places place false → CoveredTo hs t q places (place + 1)
  scan_more place next held p h below at must = elim (lt_or_le p from) [
    | inl low ↦ covered p h low at must
    | inr high ↦ (elim (lt_or_le p place) [
      | inl before ↦ absurd (true_not (must_fit q (state h.card.dates t) h.card) must (next.1 p h high before at))
      | inr behind ↦
          let same : p ≡ place = omega arith in
          let P : ℕ → Type 0 = λ k. is_among places k ≡ true in
          let Q : ℕ → Type 0 = λ k. slice_get hs k ≡ Some h in
          subst P (sym same) (held h (subst Q same at) must)
    ])
  ]

-- without names each place is a candidate
pub any_next : (hs : List Held) (t : ℤ) (q : FilterOf) (from : ℕ) → NextCandidate hs t q from (Some from)
any_next hs t q from = (omega arith, λ p h low high at. absurd (omega arith))

-- THE NAMES OF THE OBJECT AT A PLACE

is_here : {X : Type 0} (f : X → Bool) (i : ℕ) (x : X) (xs : List X) → is_place i (position_from f i (x ∷ xs)) ≡ f x
is_here f i x xs =
    (elim (f x) as (λ b. is_place i (cond b (Some i) (position_from f (i + 1) xs)) ≡ b) [
      | true ↦ (Decides-eqb i i).1 refl
      | false ↦ not_before (position_from f (i + 1) xs) refl
    ])
  where
    not_before : (o : Option ℕ) → position_from f (i + 1) xs ≡ o → is_place i o ≡ false
    not_before None e = refl
    not_before (Some n) e =
        let on : i + 1 ≤ n = (position_some f xs (i + 1) n e).0 in
        false_if (i == n) (λ h. let same : i ≡ n = (Decides-eqb i n).0 h in absurd (omega (arith, on, same)))

here_at : {X : Type 0} (f : X → Bool) (i : ℕ) (xs : List X) (p : ℕ) (x : X) → slice_get xs p ≡ Some x → is_place i (position_from f i (drop p xs)) ≡ f x
here_at f i [] p x e = cc
here_at f i (y ∷ ys) zero x e = let same : y ≡ x = cc in is_here f i y ys ∙ ap f same
here_at f i (y ∷ ys) (suc p) x e = here_at f i ys p x e

-- a name of the object at a place is found there
pub lacks_is : (hs : List Held) (names : List Name) (p : ℕ) (h : Held) → slice_get hs p ≡ Some h
    → list_any (λ (name : Name). not (is_place p (next_named (name_of name).value name.kind p hs))) names ≡ has_stranger h.card.given.names (map name_of names)
lacks_is hs names p h at =
    let own : List NameOf = h.card.given.names in
    any_same (λ (name : Name). not (is_place p (next_named (name_of name).value name.kind p hs))) (λ (name : Name). not (list_any (λ (k : NameOf). same_name k (name_of name)) own))
    (λ name. ap not (here_at (has_name (name_of name).value (name_of name).kind) p hs p h at
    ∙ any_same (λ (k : NameOf). same_name (name_of name) k) (λ (k : NameOf). same_name k (name_of name)) (λ k. same_both (name_of name) k) own)) names
    ∙ sym (any_map (λ (n : NameOf). not (list_any (λ (k : NameOf). same_name k n) own)) name_of names)

-- an object at a place
pub missing_if : (hs : List Held) (t : ℤ) (q : FilterOf) (places : PlacesListed) (p : ℕ) (f : Fit) → FitsAt hs t q p f → must_of f ≡ true → is_among places p ≡ false → IsMissing hs t q places p true
missing_if hs t q places p f x must out = (x.0, x.1, (fit_tells q (state x.0.card.dates t) x.0.card f x.2).1 ∙ must, out)

same_held : (hs : List Held) (p : ℕ) (g h : Held) → slice_get hs p ≡ Some g → slice_get hs p ≡ Some h → g ≡ h
same_held hs p g h a b = let e : Some g ≡ Some h = sym a ∙ b in cc

pub missing_not : (hs : List Held) (t : ℤ) (q : FilterOf) (places : PlacesListed) (p : ℕ) (f : Fit) → FitsAt hs t q p f → (must_of f ≡ true → is_among places p ≡ true) → IsMissing hs t q places p false
missing_not hs t q places p f x there h at must =
    let same : x.0 ≡ h = same_held hs p x.0 h x.1 at in
    let P : Held → Type 0 = λ g. must_fit q (state g.card.dates t) g.card ≡ true in
    there (sym (fit_tells q (state x.0.card.dates t) x.0.card f x.2).1 ∙ subst P (sym same) must)

-- the object of an identifier
fits_of : (hs : List Held) (t : ℤ) (q : FilterOf) (id : List ℕ) (p : ℕ) (f : Fit) → place_of id (cards_of hs) ≡ Some p → FitsAt hs t q p f → fits_here q t (card_meant (cards_of hs) (Some id)) ≡ may_of f
fits_of hs t q id p f at x =
    let here : card_meant (cards_of hs) (Some id) ≡ Some x.0.card =
    ap (option_and_then (slice_get (cards_of hs))) at ∙ get-cards_of hs p ∙ ap (option_map (λ (g : Held). g.card)) x.1 in
    ap (fits_here q t) here ∙ (fit_tells q (state x.0.card.dates t) x.0.card f x.2).0

pub listed_if : (hs : List Held) (t : ℤ) (q : FilterOf) (id : List ℕ) (p : ℕ) (f : Fit) → place_of id (cards_of hs) ≡ Some p → FitsAt hs t q p f → may_of f ≡ true → PlaceListed (cards_of hs) t q id (Some p)
listed_if hs t q id p f at x may = (fits_of hs t q id p f at x ∙ may, at)

pub listed_not : (hs : List Held) (t : ℤ) (q : FilterOf) (id : List ℕ) (p : ℕ) (f : Fit) → place_of id (cards_of hs) ≡ Some p → FitsAt hs t q p f → may_of f ≡ false → PlaceListed (cards_of hs) t q id None
listed_not hs t q id p f at x may = fits_of hs t q id p f at x ∙ may

pub listed_absent : (hs : List Held) (t : ℤ) (q : FilterOf) (id : List ℕ) → place_of id (cards_of hs) ≡ None → PlaceListed (cards_of hs) t q id None
listed_absent hs t q id none = ap (λ (o : Option ℕ). fits_here q t (option_and_then (slice_get (cards_of hs)) o)) none

-- AS THE PROGRAM SEES ITS LISTS

pub listed_is : (cs : List Card) (t : ℤ) (q : FilterOf) (id : List ℕ) (o p : Option ℕ) → PlaceListed cs t q id o → o ≡ p → PlaceListed cs t q id p
listed_is cs t q id o p h e = subst (PlaceListed cs t q id) e h

pub mapped_at : {X Y : Type 0} (f : X → Y) (xs : List X) (i : ℕ) (d : X) → i < length xs → slice_get (map f xs) i ≡ Some (f (get_or xs i d))
mapped_at f [] i d h = absurd (omega arith)
mapped_at f (x ∷ xs) zero d h = refl
mapped_at f (x ∷ xs) (suc i) d h = mapped_at f xs i d (omega arith)
