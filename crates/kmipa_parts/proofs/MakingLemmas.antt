-- The part of a call is made item by item.
use Rattle.std.proofs.Common.{◌≡◌, ◌<◌, ◌≤◌, ◌+◌, ◌||◌, ◌⊎◌, inl, inr, ℕ, zero, suc, List, [], ◌∷◌, ◌++◌, get_or, length, map, take, drop, cond, Bool, true, false, bytes_eq, slice_get, Option, Some, None, refl, sym, ap, ◌∙◌, subst, arith}
use Rattle.std.proofs.lemmas.List.{take_more, map-append}
use Rattle.std.proofs.lemmas.List.Elements.{Contains-append_cases, filter-append}
use Rattle.std.proofs.lemmas.Option.{get_or_from_slice_get}
use Rattle.std.proofs.lemmas.Slice.Eq.{bytes_eq-Decides}
use denote.Bor.{Bor}
use Rattle.kmipa_msgs.specs.Messages.{AskOf, AnswerOf, lent}
use Rattle.kmipa_attrs.specs.Filters.{FilterOf}
use Rattle.std.specs.Prelude.{Contains}
use Rattle.kmipa_check.proofs.PlaceLemmas.{contains_at, at_contains}
use Rattle.kmipa_parts.specs.Parts.{OwnOf, is_among, held_after, IsPart, LeavesBe, only_own, ArePartItems, AllLeaveBe}
use Rattle.kmipa_parts.specs.Making.{held_along, MadeSoFar, LeftSoFar}

-- ---- identifiers

-- the identifiers that were looked at
or_past : (b c d : Bool) → (b || c) ≡ false → (c ≡ false → d ≡ false) → (b || d) ≡ false
or_past true c d h f = absurd cc
or_past false c d h f = f h

or_there : (b c : Bool) → c ≡ true → (b || c) ≡ true
or_there true c h = refl
or_there false c h = h

pub among_past : (xs : List (Bor (List ℕ))) (y : Bor (List ℕ)) (x : List ℕ) → is_among (map lent xs) x ≡ false → bytes_eq y.now x ≡ false → is_among (map lent (xs ++ y ∷ [])) x ≡ false
among_past [] y x h e = ap (λ b. b || false) e
among_past (z ∷ xs) y x h e = or_past (bytes_eq z.now x) (is_among (map lent xs) x) (is_among (map lent (xs ++ y ∷ [])) x) h (λ g. among_past xs y x g e)

pub among_at : (xs : List (Bor (List ℕ))) (i : ℕ) (d : Bor (List ℕ)) (x : List ℕ) → i < length xs → bytes_eq (get_or xs i d).now x ≡ true → is_among (map lent xs) x ≡ true
among_at [] i d x lt e = absurd (omega (arith, lt))
among_at (z ∷ xs) zero d x lt e = ap (λ b. b || is_among (map lent xs) x) e
among_at (z ∷ xs) (suc i) d x lt e = or_there (bytes_eq z.now x) (is_among (map lent xs) x) (among_at xs i d x (omega (arith, lt)) e)

-- ---- lists

-- one identifier more
only_here : (own : OwnOf) (xs : List (List ℕ)) (x : List ℕ) (b : Bool) → own x ≡ b → only_own own (xs ++ x ∷ []) ≡ only_own own xs ++ cond b (x ∷ []) []
only_here own xs x b e = filter-append own xs (x ∷ []) ∙ ap (λ c. only_own own xs ++ cond c (x ∷ []) []) e

append_none : {A : Type 0} (xs : List A) → xs ++ [] ≡ xs
append_none [] = refl
append_none (x ∷ xs) = ap (λ ys. x ∷ ys) (append_none xs)

pub only_kept : (own : OwnOf) (xs kept : List (Bor (List ℕ))) (x : Bor (List ℕ)) → map lent kept ≡ only_own own (map lent xs) → own x.now ≡ true
    → map lent (kept ++ x ∷ []) ≡ only_own own (map lent (xs ++ x ∷ []))
only_kept own xs kept x h e =
    map-append lent kept (x ∷ []) ∙ ap (λ ys. ys ++ x.now ∷ []) h ∙ sym (only_here own (map lent xs) x.now true e) ∙ sym (ap (only_own own) (map-append lent xs (x ∷ [])))

pub only_past : (own : OwnOf) (xs kept : List (Bor (List ℕ))) (x : Bor (List ℕ)) → map lent kept ≡ only_own own (map lent xs) → own x.now ≡ false
    → map lent kept ≡ only_own own (map lent (xs ++ x ∷ []))
only_past own xs kept x h e =
    h ∙ sym (append_none (only_own own (map lent xs))) ∙ sym (only_here own (map lent xs) x.now false e) ∙ sym (ap (only_own own) (map-append lent xs (x ∷ [])))

-- ---- one item more

same_long : {A B : Type 0} (x : A) (xs : List A) (y : B) (ys : List B) → length (x ∷ xs) ≡ length (y ∷ ys) → length xs ≡ length ys
same_long x xs y ys e = omega (arith, e)

none_long : {A : Type 0} (xs : List A) → length xs ≡ 0 → xs ≡ []
none_long [] e = refl
none_long (x ∷ xs) e = absurd (omega (arith, e))

held_snoc : (b : Option (List ℕ)) (xs : List AskOf) (ys : List AnswerOf) (k : AskOf) (a : AnswerOf) → length xs ≡ length ys
    → held_along b (xs ++ k ∷ []) (ys ++ a ∷ []) ≡ held_after (held_along b xs ys) k.asked a.status a.payload
held_snoc b [] [] k a e = refl
held_snoc b [] (y ∷ ys) k a e = absurd (omega (arith, e))
held_snoc b (x ∷ xs) [] k a e = absurd (omega (arith, e))
held_snoc b (x ∷ xs) (y ∷ ys) k a e = held_snoc (held_after b x.asked y.status y.payload) xs ys k a (same_long x xs y ys e)

items_snoc : (own : OwnOf) (b : Option (List ℕ)) (xs : List AskOf) (ys : List AnswerOf) (ps : List AskOf) (qs : List AnswerOf) (k : AskOf) (a : AnswerOf) (p : AskOf) (q : AnswerOf) → length xs ≡ length ys
    → ArePartItems own b xs ys ps qs → IsPart own (held_along b xs ys) k a p q → ArePartItems own b (xs ++ k ∷ []) (ys ++ a ∷ []) (ps ++ p ∷ []) (qs ++ q ∷ [])
items_snoc own b [] [] ps qs k a p q e h i =
    let P : List AskOf → List AnswerOf → Type 0 = λ us vs. ArePartItems own b (k ∷ []) (a ∷ []) (us ++ p ∷ []) (vs ++ q ∷ []) in
    subst (λ (us : List AskOf). P us qs) (sym (none_long ps h.0)) (subst (λ (vs : List AnswerOf). P [] vs) (sym h.1) (i, (refl, refl)))
items_snoc own b [] (y ∷ ys) ps qs k a p q e h i = absurd (omega (arith, e))
items_snoc own b (x ∷ xs) [] ps qs k a p q e h i = absurd (omega (arith, e))
items_snoc own b (x ∷ xs) (y ∷ ys) [] qs k a p q e h i = absurd h
items_snoc own b (x ∷ xs) (y ∷ ys) (u ∷ us) [] k a p q e h i = absurd h
items_snoc own b (x ∷ xs) (y ∷ ys) (u ∷ us) (v ∷ vs) k a p q e h i =
    (h.0, items_snoc own (held_after b x.asked y.status y.payload) xs ys us vs k a p q (same_long x xs y ys e) h.1 i)

-- asks without an answer
items_more : (own : OwnOf) (b : Option (List ℕ)) (xs zs : List AskOf) (ys : List AnswerOf) (ps rs : List AskOf) (qs : List AnswerOf) → length xs ≡ length ys → length rs ≡ length zs
    → ArePartItems own b xs ys ps qs → ArePartItems own b (xs ++ zs) ys (ps ++ rs) qs
items_more own b [] zs [] ps rs qs e long h =
    let P : List AskOf → Type 0 = λ us. ArePartItems own b zs [] (us ++ rs) qs in
    subst P (sym (none_long ps h.0)) (long, h.1)
items_more own b [] zs (y ∷ ys) ps rs qs e long h = absurd (omega (arith, e))
items_more own b (x ∷ xs) zs [] ps rs qs e long h = absurd (omega (arith, e))
items_more own b (x ∷ xs) zs (y ∷ ys) [] rs qs e long h = absurd h
items_more own b (x ∷ xs) zs (y ∷ ys) (u ∷ us) rs [] e long h = absurd h
items_more own b (x ∷ xs) zs (y ∷ ys) (u ∷ us) rs (v ∷ vs) e long h =
    (h.0, items_more own (held_after b x.asked y.status y.payload) xs zs ys us rs vs (same_long x xs y ys e) long h.1)

left_snoc : (own : OwnOf) (b : Option (List ℕ)) (xs : List AskOf) (ys : List AnswerOf) (k : AskOf) (a : AnswerOf) → length xs ≡ length ys → AllLeaveBe own b xs ys → LeavesBe own (held_along b xs ys) k a
    → AllLeaveBe own b (xs ++ k ∷ []) (ys ++ a ∷ [])
left_snoc own b [] [] k a e h i = (i, tt)
left_snoc own b [] (y ∷ ys) k a e h i = absurd (omega (arith, e))
left_snoc own b (x ∷ xs) [] k a e h i = absurd (omega (arith, e))
left_snoc own b (x ∷ xs) (y ∷ ys) k a e h i = (h.0, left_snoc own (held_after b x.asked y.status y.payload) xs ys k a (same_long x xs y ys e) h.1 i)

left_more : (own : OwnOf) (b : Option (List ℕ)) (xs us : List AskOf) (ys vs : List AnswerOf) → length xs ≡ length ys → (us ≡ []) ⊎ (vs ≡ []) → AllLeaveBe own b xs ys → AllLeaveBe own b (xs ++ us) (ys ++ vs)
left_more own b [] us [] vs e none h = by us vs none
  where
    by : (ks : List AskOf) (zs : List AnswerOf) → (ks ≡ []) ⊎ (zs ≡ []) → AllLeaveBe own b ks zs
    by [] zs n = tt
    by (k ∷ ks) [] n = tt
    by (k ∷ ks) (a ∷ zs) (inl n) = let bad : ⊥ = cc in absurd bad
    by (k ∷ ks) (a ∷ zs) (inr n) = let bad : ⊥ = cc in absurd bad
left_more own b [] us (y ∷ ys) vs e none h = absurd (omega (arith, e))
left_more own b (x ∷ xs) us [] vs e none h = absurd (omega (arith, e))
left_more own b (x ∷ xs) us (y ∷ ys) vs e none h = (h.0, left_more own (held_after b x.asked y.status y.payload) xs us ys vs (same_long x xs y ys e) none h.1)

-- ---- so many items

take_none : {A : Type 0} (xs : List A) → take 0 xs ≡ []
take_none [] = refl
take_none (x ∷ xs) = refl

get_within : {A : Type 0} (xs : List A) (i : ℕ) (x : A) → slice_get xs i ≡ Some x → i < length xs
get_within [] i x at = let bad : ⊥ = cc in absurd bad
get_within (y ∷ xs) zero x at = omega arith
get_within (y ∷ xs) (suc i) x at = let r = get_within xs i x at in omega (arith, r)

take_snoc : {A : Type 0} (xs : List A) (i : ℕ) (x : A) → slice_get xs i ≡ Some x → take (i + 1) xs ≡ take i xs ++ x ∷ []
take_snoc xs i x at = take_more xs i x (get_within xs i x at) ∙ ap (λ z. take i xs ++ z ∷ []) (get_or_from_slice_get xs i x x at)

pub take_long : {A : Type 0} (xs : List A) (i : ℕ) → i ≤ length xs → length (take i xs) ≡ i
take_long xs zero le = ap length (take_none xs)
take_long [] (suc i) le = absurd (omega (arith, le))
take_long (x ∷ xs) (suc i) le = ap suc (take_long xs i (omega (arith, le)))

take_drop : {A : Type 0} (xs : List A) (i : ℕ) → xs ≡ take i xs ++ drop i xs
take_drop xs zero = refl
take_drop [] (suc i) = refl
take_drop (x ∷ xs) (suc i) = ap (λ zs. x ∷ zs) (take_drop xs i)

drop_long : {A : Type 0} (xs : List A) (i : ℕ) → length xs ≤ i → drop i xs ≡ []
drop_long [] zero le = refl
drop_long (x ∷ xs) zero le = absurd (omega (arith, le))
drop_long [] (suc i) le = refl
drop_long (x ∷ xs) (suc i) le = drop_long xs i (omega (arith, le))

module _ (own : OwnOf) (asks : List AskOf) (answers : List AnswerOf) where
  pub made_none : MadeSoFar own asks answers 0 None [] []
  made_none =
      let P : List AskOf → List AnswerOf → Type 0 = λ xs ys. ArePartItems own None xs ys [] [] in
      let Q : List AskOf → List AnswerOf → Type 0 = λ xs ys. None ≡ held_along None xs ys in
      record {
        items = subst (λ xs. P xs (take 0 answers)) (sym (take_none asks)) (subst (λ ys. P [] ys) (sym (take_none answers)) (refl, refl));
        holds = subst (λ xs. Q xs (take 0 answers)) (sym (take_none asks)) (subst (λ ys. Q [] ys) (sym (take_none answers)) refl);
      }

  both_long : (place : ℕ) (k : AskOf) (a : AnswerOf) → slice_get asks place ≡ Some k → slice_get answers place ≡ Some a → length (take place asks) ≡ length (take place answers)
  both_long place k a at there =
      let x = get_within asks place k at in
      let y = get_within answers place a there in
      take_long asks place (omega (arith, x)) ∙ sym (take_long answers place (omega (arith, y)))

  pub made_more : (place : ℕ) (held : Option (List ℕ)) (parts : List AskOf) (shown : List AnswerOf) (k : AskOf) (a : AnswerOf) (p : AskOf) (q : AnswerOf) → slice_get asks place ≡ Some k → slice_get answers place ≡ Some a
      → MadeSoFar own asks answers place held parts shown → IsPart own held k a p q → MadeSoFar own asks answers (place + 1) (held_after held k.asked a.status a.payload) (parts ++ p ∷ []) (shown ++ q ∷ [])
  made_more place held parts shown k a p q at there m i =
      let long = both_long place k a at there in
      let P : List AskOf → List AnswerOf → Type 0 = λ xs ys. ArePartItems own None xs ys (parts ++ p ∷ []) (shown ++ q ∷ []) in
      let Q : List AskOf → List AnswerOf → Type 0 = λ xs ys. held_after held k.asked a.status a.payload ≡ held_along None xs ys in
      let now = items_snoc own None (take place asks) (take place answers) parts shown k a p q long m.items (subst (λ h. IsPart own h k a p q) m.holds i) in
      let holds = ap (λ h. held_after h k.asked a.status a.payload) m.holds ∙ sym (held_snoc None (take place asks) (take place answers) k a long) in
      record {
        items = subst (λ xs. P xs (take (place + 1) answers)) (sym (take_snoc asks place k at)) (subst (λ ys. P (take place asks ++ k ∷ []) ys) (sym (take_snoc answers place a there)) now);
        holds = subst (λ xs. Q xs (take (place + 1) answers)) (sym (take_snoc asks place k at)) (subst (λ ys. Q (take place asks ++ k ∷ []) ys) (sym (take_snoc answers place a there)) holds);
      }

  pub left_none : LeftSoFar own asks answers 0 None
  left_none =
      let P : List AskOf → List AnswerOf → Type 0 = λ xs ys. AllLeaveBe own None xs ys in
      let Q : List AskOf → List AnswerOf → Type 0 = λ xs ys. None ≡ held_along None xs ys in
      record {
        items = subst (λ xs. P xs (take 0 answers)) (sym (take_none asks)) tt;
        holds = subst (λ xs. Q xs (take 0 answers)) (sym (take_none asks)) refl;
      }

  pub left_one_more : (place : ℕ) (held : Option (List ℕ)) (k : AskOf) (a : AnswerOf) → slice_get asks place ≡ Some k → slice_get answers place ≡ Some a
      → LeftSoFar own asks answers place held → LeavesBe own held k a → LeftSoFar own asks answers (place + 1) (held_after held k.asked a.status a.payload)
  left_one_more place held k a at there m i =
      let long = both_long place k a at there in
      let P : List AskOf → List AnswerOf → Type 0 = λ xs ys. AllLeaveBe own None xs ys in
      let Q : List AskOf → List AnswerOf → Type 0 = λ xs ys. held_after held k.asked a.status a.payload ≡ held_along None xs ys in
      let now = left_snoc own None (take place asks) (take place answers) k a long m.items (subst (λ h. LeavesBe own h k a) m.holds i) in
      let holds = ap (λ h. held_after h k.asked a.status a.payload) m.holds ∙ sym (held_snoc None (take place asks) (take place answers) k a long) in
      record {
        items = subst (λ xs. P xs (take (place + 1) answers)) (sym (take_snoc asks place k at)) (subst (λ ys. P (take place asks ++ k ∷ []) ys) (sym (take_snoc answers place a there)) now);
        holds = subst (λ xs. Q xs (take (place + 1) answers)) (sym (take_snoc asks place k at)) (subst (λ ys. Q (take place asks ++ k ∷ []) ys) (sym (take_snoc answers place a there)) holds);
      }

  pub left_all : (place : ℕ) (held : Option (List ℕ)) → place ≤ length asks → place ≤ length answers → (length asks ≤ place) ⊎ (length answers ≤ place) → LeftSoFar own asks answers place held → AllLeaveBe own None asks answers
  left_all place held within few past m =
      let P : List AskOf → List AnswerOf → Type 0 = λ xs ys. AllLeaveBe own None xs ys in
      subst (λ xs. P xs answers) (sym (take_drop asks place)) (subst (λ ys. P (take place asks ++ drop place asks) ys) (sym (take_drop answers place))
      (left_more own None (take place asks) (drop place asks) (take place answers) (drop place answers) (take_long asks place within ∙ sym (take_long answers place few)) (ends past) m.items))
    where
      ends : (length asks ≤ place) ⊎ (length answers ≤ place) → (drop place asks ≡ []) ⊎ (drop place answers ≡ [])
      ends (inl le) = inl (drop_long asks place le)
      ends (inr le) = inr (drop_long answers place le)

pub append_long : {A : Type 0} (xs ys : List A) → length (xs ++ ys) ≡ length xs + length ys
append_long [] ys = omega arith
append_long (x ∷ xs) ys = let r = append_long xs ys in omega (arith, r)

pub append_assoc : {A : Type 0} (xs ys zs : List A) → (xs ++ ys) ++ zs ≡ xs ++ (ys ++ zs)
append_assoc [] ys zs = refl
append_assoc (x ∷ xs) ys zs = ap (λ us. x ∷ us) (append_assoc xs ys zs)

-- with asks without effect where no answer is
pub filled_up : (own : OwnOf) (asks : List AskOf) (answers : List AnswerOf) (parts all rest : List AskOf) (shown : List AnswerOf) → length answers ≤ length asks
    → ArePartItems own None (take (length answers) asks) answers parts shown → all ≡ parts ++ rest → length all ≡ length asks → length parts ≡ length answers → ArePartItems own None asks answers all shown
filled_up own asks answers parts all rest shown few m is long made =
    let n = length answers in
    let P : List AskOf → List AskOf → Type 0 = λ xs ps. ArePartItems own None xs answers ps shown in
    let whole : length asks ≡ length (take n asks) + length (drop n asks) = ap length (take_drop asks n) ∙ append_long (take n asks) (drop n asks) in
    let parted : length all ≡ length parts + length rest = ap length is ∙ append_long parts rest in
    let front = take_long asks n few in
    subst (λ xs. P xs all) (sym (take_drop asks n)) (subst (λ ps. P (take n asks ++ drop n asks) ps) (sym is)
    (items_more own None (take n asks) (drop n asks) answers parts rest shown front (omega (arith, whole, parted, front, long, made)) m))

pub parts_long : (own : OwnOf) (before : Option (List ℕ)) (asks : List AskOf) (answers : List AnswerOf) (parts : List AskOf) (shown : List AnswerOf) → ArePartItems own before asks answers parts shown → length parts ≡ length asks
parts_long own before asks [] parts shown p = p.0
parts_long own before [] (answer ∷ answers) parts shown p = ap length p.0
parts_long own before (ask ∷ asks) (answer ∷ answers) [] shown p = absurd p
parts_long own before (ask ∷ asks) (answer ∷ answers) (part ∷ parts) [] p = absurd p
parts_long own before (ask ∷ asks) (answer ∷ answers) (part ∷ parts) (seen ∷ shown) p =
    ap suc (parts_long own (held_after before ask.asked answer.status answer.payload) asks answers parts shown p.1)
