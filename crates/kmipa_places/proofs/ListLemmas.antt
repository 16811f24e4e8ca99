-- Places and outcomes, one behind the other.
use Rattle.std.proofs.Common.{◌≡◌, ◌+◌, ℕ, suc, ℤ, Bool, true, false, ◌||◌, is_none, List, [], ◌∷◌, ◌++◌, map, length, Option, Some, None, refl, sym, ap, ◌∙◌, append_assoc, arith, length-append}
use Rattle.std.proofs.lemmas.List.{append-nil, map-append}
use Rattle.std.specs.Option.{option_map}
use Rattle.kmipa_ttlv.specs.Tree.{Tree}
use Rattle.kmipa_passed.specs.declared.passed.Outcome.{Outcome}
use Rattle.kmipa_places.specs.Outcomes.{outcome_at, some_unread}
use Rattle.kmipa_places.specs.Places.{PlaceOf, place_of}
use Rattle.kmipa_places.specs.Readings.{ahead, outcomes_in, place_by, place_in, places_in, way_in}
use Rattle.kmipa_places.specs.Calls.{ArePlaces}
use Rattle.kmipa_places.specs.Unread.{is_among}
use Rattle.kmipa_places.specs.declared.place.Place.{Place}
use Rattle.kmipa_places.proofs.PlaceLemmas.{is_place, one_place}

-- ---- the outcomes

outcomes_more : (o : Option Outcome) (rest : Option (List Outcome)) (us : List Tree) (os : List Outcome) → ((xs : List Outcome) → rest ≡ Some xs → map outcome_at us ≡ map Some xs)
    → ahead o rest ≡ Some os → o ∷ map outcome_at us ≡ map Some os
outcomes_more None rest us os h e = cc
outcomes_more (Some x) None us os h e = cc
outcomes_more (Some x) (Some xs) us os h e =
    let same : x ∷ xs ≡ os = cc in
    ap (λ (zs : List (Option Outcome)). Some x ∷ zs) (h xs refl) ∙ ap (map Some) same

pub all_outcomes : (us : List Tree) (os : List Outcome) → outcomes_in us ≡ Some os → map outcome_at us ≡ map Some os
all_outcomes [] os e = let same : [] ≡ os = cc in ap (map Some) same
all_outcomes (u ∷ us) os e = outcomes_more (outcome_at u) (outcomes_in us) us os (all_outcomes us) e

unread_more : (o : Option Outcome) (rest : Option (List Outcome)) (b : Bool) → (rest ≡ None → b ≡ true) → ahead o rest ≡ None → (is_none o || b) ≡ true
unread_more None rest b h e = refl
unread_more (Some x) None b h e = h refl
unread_more (Some x) (Some xs) b h e = cc

pub some_outcome_unread : (us : List Tree) → outcomes_in us ≡ None → some_unread us ≡ true
some_outcome_unread [] e = cc
some_outcome_unread (u ∷ us) e = unread_more (outcome_at u) (outcomes_in us) (some_unread us) (some_outcome_unread us) e

read_more : (o : Option Outcome) (rest : Option (List Outcome)) (os : List Outcome) (b : Bool) → ((xs : List Outcome) → rest ≡ Some xs → b ≡ false) → ahead o rest ≡ Some os → (is_none o || b) ≡ false
read_more None rest os b h e = cc
read_more (Some x) None os b h e = cc
read_more (Some x) (Some xs) os b h e = h xs refl

pub no_outcome_unread : (us : List Tree) (os : List Outcome) → outcomes_in us ≡ Some os → some_unread us ≡ false
no_outcome_unread [] os e = refl
no_outcome_unread (u ∷ us) os e = read_more (outcome_at u) (outcomes_in us) os (some_unread us) (no_outcome_unread us) e

pub one_list : {A : Type 0} (xs ys : List A) → map Some xs ≡ map Some ys → xs ≡ ys
one_list [] [] e = refl
one_list [] (y ∷ ys) e = cc
one_list (x ∷ xs) [] e = cc
one_list (x ∷ xs) (y ∷ ys) e =
    let tail : map Some xs ≡ map Some ys = cc in
    let rest = one_list xs ys tail in
    let some : Some x ≡ Some y = cc in
    let head : x ≡ y = cc in
    (λ i. head i ∷ rest i)

-- ---- the places

places_more : (unordered : Bool) (asides : List ℤ) (n : ℕ) (t u : Tree) (ts us : List Tree) (p : Option PlaceOf) (rest : Option (List PlaceOf)) (ps : List PlaceOf)
    → place_in unordered (is_among asides n) t u ≡ p → ((qs : List PlaceOf) → rest ≡ Some qs → ArePlaces unordered asides (suc n) ts us qs)
    → ahead p rest ≡ Some ps → ArePlaces unordered asides n (t ∷ ts) (u ∷ us) ps
places_more unordered asides n t u ts us None rest ps f h e = cc
places_more unordered asides n t u ts us (Some p) None ps f h e = cc
places_more unordered asides n t u ts us (Some p) (Some qs) [] f h e = cc
places_more unordered asides n t u ts us (Some p) (Some qs) (x ∷ xs) f h e =
    let first : p ≡ x = cc in
    let others : qs ≡ xs = cc in
    (is_place unordered (is_among asides n) t u x (f ∙ ap (λ (q : PlaceOf). Some q) first), h xs (ap (λ (zs : List PlaceOf). Some zs) others))

pub are_places : (unordered : Bool) (asides : List ℤ) (n : ℕ) (ts us : List Tree) (ps : List PlaceOf) → places_in unordered asides n ts us ≡ Some ps → ArePlaces unordered asides n ts us ps
are_places unordered asides n [] us ps e = cc
are_places unordered asides n (t ∷ ts) [] ps e = cc
are_places unordered asides n (t ∷ ts) (u ∷ us) ps e =
    places_more unordered asides n t u ts us (place_in unordered (is_among asides n) t u) (places_in unordered asides (suc n) ts us) ps refl (are_places unordered asides (suc n) ts us) e

pub one_places : (unordered : Bool) (asides : List ℤ) (n : ℕ) (ts us : List Tree) (ps qs : List PlaceOf) → ArePlaces unordered asides n ts us ps → ArePlaces unordered asides n ts us qs → ps ≡ qs
one_places unordered asides n [] us ps qs e f = e ∙ sym f
one_places unordered asides n (t ∷ ts) [] ps qs e f = e ∙ sym f
one_places unordered asides n (t ∷ ts) (u ∷ us) [] qs e f = absurd e
one_places unordered asides n (t ∷ ts) (u ∷ us) (p ∷ ps) [] e f = absurd f
one_places unordered asides n (t ∷ ts) (u ∷ us) (p ∷ ps) (q ∷ qs) e f =
    let first = one_place unordered (is_among asides n) t u p q e.0 f.0 in
    let others = one_places unordered asides (suc n) ts us ps qs e.1 f.1 in
    (λ i. first i ∷ others i)

-- where a place can't be read, the status of an answer can't be
place_unread : (o : Option Outcome) (by : Outcome → PlaceOf) → option_map by o ≡ None → is_none o ≡ true
place_unread None by e = refl
place_unread (Some x) by e = cc

unread_place : (p : Option PlaceOf) (rest : Option (List PlaceOf)) (a b : Bool) → (p ≡ None → a ≡ true) → (rest ≡ None → b ≡ true) → ahead p rest ≡ None → (a || b) ≡ true
unread_place None rest a b h g e = ap (λ (c : Bool). c || b) (h refl)
unread_place (Some p) None a b h g e = ap (λ (c : Bool). a || c) (g refl) ∙ or_true a
  where
    or_true : (c : Bool) → (c || true) ≡ true
    or_true true = refl
    or_true false = refl
unread_place (Some p) (Some ps) a b h g e = cc

pub some_place_unread : (unordered : Bool) (asides : List ℤ) (n : ℕ) (ts us : List Tree) → places_in unordered asides n ts us ≡ None → some_unread us ≡ true
some_place_unread unordered asides n [] us e = cc
some_place_unread unordered asides n (t ∷ ts) [] e = cc
some_place_unread unordered asides n (t ∷ ts) (u ∷ us) e =
    unread_place (place_in unordered (is_among asides n) t u) (places_in unordered asides (suc n) ts us) (is_none (outcome_at u)) (some_unread us)
    (place_unread (outcome_at u) (place_by unordered t u (way_in unordered (is_among asides n) t u))) (some_place_unread unordered asides (suc n) ts us) e

-- ---- lists that are read one by one

-- what is read behind others
abbrev pub behind : {A : Type 0} → List A → Option (List A) → Option (List A)
behind xs None = None
behind xs (Some ys) = Some (xs ++ ys)

pub behind_one : {A : Type 0} (xs ys : List A) (x : A) (rest : Option (List A)) → ys ≡ xs ++ x ∷ [] → behind xs (ahead (Some x) rest) ≡ behind ys rest
behind_one xs ys x None e = refl
behind_one {A} xs ys x (Some zs) e = ap (λ (vs : List A). some vs) (sym (append_assoc xs (x ∷ []) zs)) ∙ ap (λ (vs : List A). some (vs ++ zs)) (sym e)
  where
    some : List A → Option (List A)
    some vs = Some vs

pub behind_all : {A : Type 0} (xs : List A) → behind xs (Some []) ≡ Some xs
behind_all {A} xs = ap (λ (vs : List A). some vs) (append-nil xs)
  where
    some : List A → Option (List A)
    some vs = Some vs

-- one more of two lists, and its meaning
pub mapped_one : {X A : Type 0} (meaning : X → A) (xs ys : List X) (x : X) → ys ≡ xs ++ x ∷ [] → map meaning ys ≡ map meaning xs ++ meaning x ∷ []
mapped_one meaning xs ys x e = ap (map meaning) e ∙ map-append meaning xs (x ∷ [])

-- a place that is read
pub places_step : (unordered : Bool) (asides : List ℤ) (xs ys : List Place) (x : Place) (ts rest us others : List Tree) (t u : Tree) (aside : Bool) → ts ≡ t ∷ rest → us ≡ u ∷ others
    → aside ≡ is_among asides (length xs + 1) → Some (place_of x) ≡ place_in unordered aside t u → ys ≡ xs ++ x ∷ []
    → behind (map place_of xs) (places_in unordered asides (length xs + 1) ts us) ≡ behind (map place_of ys) (places_in unordered asides (length ys + 1) rest others)
places_step unordered asides xs ys x ts rest us others t u aside te ue ae pe ye =
    let n = length xs + 1 in
    let p : place_in unordered (is_among asides n) t u ≡ Some (place_of x) = ap (λ (b : Bool). place_in unordered b t u) (sym ae) ∙ sym pe in
    let l : length ys ≡ length (xs ++ x ∷ []) = ap length ye in
    let m : suc n ≡ length ys + 1 = omega (arith, length-append xs (x ∷ []), l) in
    (λ i. behind (map place_of xs) (places_in unordered asides n (te i) (ue i)))
    ∙ ap (λ (o : Option PlaceOf). behind (map place_of xs) (ahead o (places_in unordered asides (suc n) rest others))) p
    ∙ behind_one (map place_of xs) (map place_of ys) (place_of x) (places_in unordered asides (suc n) rest others) (mapped_one place_of xs ys x ye)
    ∙ ap (λ (k : ℕ). behind (map place_of ys) (places_in unordered asides k rest others)) m
