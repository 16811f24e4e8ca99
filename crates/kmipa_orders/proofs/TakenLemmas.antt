-- The set of the calls taken, event by event.
use Rattle.std.proofs.Common.{◌≡◌, ◌≢◌, ◌≤◌, ◌<◌, ◌⊎◌, inl, inr, ℕ, ◌+◌, ◌-◌, zero, suc, Bool, true, false, List, [], ◌∷◌, ◌++◌, length, set, slice_get, Some, Contains, refl, sym, ap, ◌∙◌, subst, arith}
use Rattle.std.proofs.lemmas.List.{get_or-set_same, get_or-set_other, length-append, length-set}
use Rattle.std.proofs.lemmas.List.Elements.{Contains-append_cases, Contains-append_right}
use Rattle.std.specs.Prelude.{AllPairs, slice_set}
use Rattle.kmipa_orders.specs.Ends.{flag, AreFlagged, IsSetOf}
use Rattle.kmipa_orders.specs.declared.taken.CallSet.{CallSet}
use Rattle.kmipa_orders.specs.declared.taken.TakenCalls.{TakenCalls}
use Rattle.kmipa_orders.proofs.LinksLemmas.{same_or, which}
use Rattle.kmipa_check.proofs.PlaceLemmas.{below_suc}
use Rattle.kmipa_orders.proofs.PermutationLemmas.{IsOnce, at_most, once_pairs}
use Rattle.kmipa_orders.proofs.PickLemmas.{lower}
use Rattle.kmipa_orders.proofs.PlaceLemmas.{one_cases, has_head}

-- a place with a mark is there
flag_within : (flags : List Bool) (p : ℕ) → flag flags p ≡ true → p < length flags
flag_within [] p m = let clash : false ≡ true = m in absurd cc
flag_within (b ∷ flags) zero m = omega arith
flag_within (b ∷ flags) (suc p) m = omega (arith, flag_within flags p m)

module _ (count : ℕ) (taken : List ℕ) (place : ℕ) (f : TakenCalls) where
  module _ (a : AreFlagged count taken f) (below : place < count) where
    marked_now : (p : ℕ) → (p ≡ place) ⊎ (flag f.flags.items p ≡ true) → flag (set f.flags.items place true) p ≡ true
    marked_now p h = elim (same_or p place) [
      | inl e ↦ let P : ℕ → Type 0 = λ q. flag (set f.flags.items place true) q ≡ true in subst P (sym e) (get_or-set_same f.flags.items place true false (omega (arith, below, a.long)))
      | inr d ↦ get_or-set_other f.flags.items place p true false d ∙ elim h [ inl e ↦ absurd (d e) | inr m ↦ m ]
    ]

    pub low_kept : (p : ℕ) → p < f.low → flag (set f.flags.items place true) p ≡ true
    low_kept p less = marked_now p (inr (a.low p less))

    pub taken_more : (g : TakenCalls) → g.flags.items ≡ slice_set f.flags.items place true → ((p : ℕ) → p < g.low → flag g.flags.items p ≡ true) → f.high ≤ g.high → place < g.high
        → AreFlagged count (place ∷ taken) g
    taken_more g is low more here = record {
      long = ap length is ∙ length-set f.flags.items place true ∙ a.long;
      marked = λ p has. ap (λ (fs : List Bool). flag fs p) is ∙ marked_now p (elim (one_cases place p taken has) [ inl e ↦ inl (sym e) | inr t ↦ inr (a.marked p t) ]);
      only = λ p m. elim (same_or p place) [
        | inl e ↦ let P : ℕ → Type 0 = λ q. Contains (place ∷ taken) q in subst P (sym e) (has_head place taken)
        | inr d ↦ Contains-append_right (place ∷ []) taken p (a.only p (was p d m))
      ];
      low = low;
      high = λ p m. elim (same_or p place) [ inl e ↦ omega (arith, e, here) | inr d ↦ let h = a.high p (was p d m) in omega (arith, h, more) ];
    }
      where
        was : (p : ℕ) → p ≢ place → flag g.flags.items p ≡ true → flag f.flags.items p ≡ true
        was p d m = sym (get_or-set_other f.flags.items place p true false d) ∙ sym (ap (λ (fs : List Bool). flag fs p) is) ∙ m

  -- and less
  module _ (a : AreFlagged count (place ∷ taken) f) where
    pub high_kept : (p : ℕ) → flag (set f.flags.items place false) p ≡ true → p < f.high
    high_kept p m = elim (same_or p place) [
      | inl e ↦ let h = a.high place (a.marked place (has_head place taken)) in omega (arith, h, e)
      | inr d ↦ a.high p (sym (get_or-set_other f.flags.items place p false false d) ∙ m)
    ]

    within : place < length f.flags.items
    within = flag_within f.flags.items place (a.marked place (has_head place taken))

    pub taken_less : (g : TakenCalls) → g.flags.items ≡ slice_set f.flags.items place false → g.low ≤ f.low → g.low ≤ place → ((p : ℕ) → flag g.flags.items p ≡ true → p < g.high)
        → (Contains taken place → ⊥) → AreFlagged count taken g
    taken_less g is less low high fresh = record {
      long = ap length is ∙ length-set f.flags.items place false ∙ a.long;
      marked = λ p has. elim (same_or p place) [
        | inl e ↦ absurd (let P : ℕ → Type 0 = λ q. Contains taken q in fresh (subst P e has))
        | inr d ↦ now p d (a.marked p (Contains-append_right (place ∷ []) taken p has))
      ];
      only = λ p m. elim (same_or p place) [
        | inl e ↦ absurd (clash p e m)
        | inr d ↦ elim (one_cases place p taken (a.only p (sym (get_or-set_other f.flags.items place p false false d) ∙ sym (ap (λ (fs : List Bool). flag fs p) is) ∙ m))) [ inl e ↦ absurd (d (sym e)) | inr t ↦ t ]
      ];
      low = λ p h. now p (λ e. omega (arith, e, h, low)) (a.low p (omega (arith, h, less)));
      high = high;
    }
      where
        now : (p : ℕ) → p ≢ place → flag f.flags.items p ≡ true → flag g.flags.items p ≡ true
        now p d m = ap (λ (fs : List Bool). flag fs p) is ∙ get_or-set_other f.flags.items place p false false d ∙ m

        clash : (p : ℕ) → p ≡ place → flag g.flags.items p ≡ true → ⊥
        clash p e m =
            let P : ℕ → Type 0 = λ q. flag g.flags.items q ≡ true in
            let t : false ≡ true = sym (get_or-set_same f.flags.items place false false within) ∙ sym (ap (λ (fs : List Bool). flag fs place) is) ∙ subst P e m in
            absurd cc

-- the set of the calls taken
pub set_of : (count : ℕ) (taken : List ℕ) (f : TakenCalls) (k : CallSet) → AreFlagged count taken f → length taken ≡ k.count → k.low ≡ f.low
    → ((p : ℕ) → f.low ≤ p → p < f.high → flag f.flags.items p ≡ true → Contains k.rest.items p) → ((p : ℕ) → Contains k.rest.items p → flag f.flags.items p ≡ true) → IsSetOf taken k
set_of count taken f k a long low are only = record {
  count = long;
  are = λ p has. let m = a.marked p has in elim (which p f.low) [
    | inl less ↦ inl (omega (arith, less, low))
    | inr more ↦ inr (are p (elim more [ inl e ↦ omega (arith, e) | inr h ↦ omega (arith, h) ]) (a.high p m) m)
  ];
  only = λ p h. elim h [ inl less ↦ a.only p (a.low p (omega (arith, less, low))) | inr has ↦ a.only p (only p has) ];
}

-- ---- places that rise, each of which has a mark

-- So far they rise from a place on, and each has a mark; the next ones are at least so much.
pub record AreRising (flags : List Bool) (rest : List ℕ) (low count least : ℕ) : Type 0 where
  pub within : count ≤ length rest
  pub from : low ≤ least
  pub each : (k x : ℕ) → k < count → slice_get rest k ≡ Some x → (low ≤ x) × (x < least) × (flag flags x ≡ true)
  pub rising : (i j x y : ℕ) → i < j → j < count → slice_get rest i ≡ Some x → slice_get rest j ≡ Some y → x < y

pub rising_none : (flags : List Bool) (rest : List ℕ) (low : ℕ) → AreRising flags rest low 0 low
rising_none flags rest low = record {
  within = omega arith;
  from = omega arith;
  each = λ k x below at. absurd (omega (arith, below));
  rising = λ i j x y below under at stands. absurd (omega (arith, under));
}

pub rising_more : (flags : List Bool) (rest : List ℕ) (low count least place : ℕ) → AreRising flags rest low count least → count < length rest → slice_get rest count ≡ Some place → least ≤ place → flag flags place ≡ true
    → AreRising flags rest low (count + 1) (place + 1)
rising_more flags rest low count least place a more there past mark = record {
  within = omega (arith, more);
  from = let f = a.from in omega (arith, f, past);
  each = λ k x below at. elim (below_suc k count (omega (arith, below))) as (λ q. (low ≤ x) × (x < place + 1) × (flag flags x ≡ true)) [
    | inl less ↦ let e = a.each k x less at in (e.0, (let b = e.1 in omega (arith, b, past)), e.2)
    | inr e ↦
        let same = own k x e at in
        let P : ℕ → Type 0 = λ z. flag flags z ≡ true in
        let f = a.from in
        (omega (arith, f, past, same), omega (arith, same), subst P (sym same) mark)
  ];
  rising = λ i j x y below under at stands. elim (below_suc j count (omega (arith, under))) as (λ q. x < y) [
    | inl less ↦ a.rising i j x y below less at stands
    | inr e ↦ let same = own j y e stands in let b = a.each i x (omega (arith, below, e)) at in let c = b.1 in omega (arith, c, past, same)
  ];
}
  where
    own : (k x : ℕ) → k ≡ count → slice_get rest k ≡ Some x → x ≡ place
    own k x e at =
        let P : ℕ → Type 0 = λ i. slice_get rest i ≡ Some x in
        let both : Some x ≡ Some place = sym (subst P e at) ∙ there in
        cc

-- ---- as many places as are taken

abbrev upto : ℕ → List ℕ
upto zero = []
upto (suc n) = n ∷ upto n

upto_below : (n p : ℕ) → Contains (upto n) p → p < n
upto_below zero p has = absurd (omega (arith, has.1))
upto_below (suc n) p has = elim (one_cases n p (upto n) has) as (λ q. p < suc n) [
  | inl e ↦ omega (arith, e)
  | inr t ↦ let b = upto_below n p t in omega (arith, b)
]

upto_once : (n : ℕ) → IsOnce (upto n)
upto_once zero = tt
upto_once (suc n) = ((λ has. let b = upto_below n n has in omega (arith, b)), upto_once n)

upto_long : (n : ℕ) → length (upto n) ≡ n
upto_long zero = refl
upto_long (suc n) = ap suc (upto_long n)

once_append : {X : Type 0} (xs ys : List X) → IsOnce xs → IsOnce ys → ((x : X) → Contains xs x → Contains ys x → ⊥) → IsOnce (xs ++ ys)
once_append [] ys a b apart = b
once_append (x ∷ xs) ys a b apart = (
  (λ has. elim (Contains-append_cases xs ys x has) as (λ q. ⊥) [ inl l ↦ a.0 l | inr r ↦ apart x (has_head x xs) r ]),
  once_append xs ys a.1 b (λ y l r. apart y (Contains-append_right (x ∷ []) xs y l) r),
)

member_or : (p : ℕ) (xs : List ℕ) → Contains xs p ⊎ (Contains xs p → ⊥)
member_or p [] = inr (λ has. omega (arith, has.1))
member_or p (x ∷ xs) = elim (same_or x p) as (λ q. Contains (x ∷ xs) p ⊎ (Contains (x ∷ xs) p → ⊥)) [
  | inl e ↦ let P : ℕ → Type 0 = λ z. Contains (z ∷ xs) p in inl (subst P (sym e) (has_head p xs))
  | inr d ↦ elim (member_or p xs) as (λ q. Contains (x ∷ xs) p ⊎ (Contains (x ∷ xs) p → ⊥)) [
    | inl t ↦ inl (Contains-append_right (x ∷ []) xs p t)
    | inr none ↦ inr (λ has. elim (one_cases x p xs has) as (λ q. ⊥) [ inl e ↦ d e | inr t ↦ none t ])
  ]
]

module _ (taken rest : List ℕ) (low : ℕ) (below : (p : ℕ) → p < low → Contains taken p) where
  low_few : low ≤ length taken
  low_few = let m = at_most (upto low) taken (upto_once low) (λ p has. below p (upto_below low p has)) in omega (arith, m, upto_long low)

  -- where there are no more of them, each is one of these
  all_there : IsOnce rest → ((p : ℕ) → Contains rest p → low ≤ p) → ((p : ℕ) → Contains rest p → Contains taken p) → length taken ≤ low + length rest → (p : ℕ) → Contains taken p → (p < low) ⊎ Contains rest p
  all_there once past inside few p has = elim (lower low p) as (λ q. (p < low) ⊎ Contains rest p) [
    | inl less ↦ inl less
    | inr from ↦ elim (member_or p rest) as (λ q. (p < low) ⊎ Contains rest p) [
      | inl m ↦ inr m
      | inr none ↦
          absurd (let m = at_most (p ∷ (rest ++ upto low)) taken (fresh_too from none, once_append rest (upto low) once (upto_once low) apart) (λ x h. here x h) in
          omega (arith, m, length-append rest (upto low), upto_long low, few))
    ]
  ]
    where
      apart : (x : ℕ) → Contains rest x → Contains (upto low) x → ⊥
      apart x l r = let a = past x l in let b = upto_below low x r in omega (arith, a, b)

      fresh_too : low ≤ p → (Contains rest p → ⊥) → Contains (rest ++ upto low) p → ⊥
      fresh_too from none h = elim (Contains-append_cases rest (upto low) p h) as (λ q. ⊥) [ inl l ↦ none l | inr r ↦ let b = upto_below low p r in omega (arith, b, from) ]

      here : (x : ℕ) → Contains (p ∷ (rest ++ upto low)) x → Contains taken x
      here x h = elim (one_cases p x (rest ++ upto low) h) as (λ q. Contains taken x) [
        | inl e ↦ let P : ℕ → Type 0 = λ z. Contains taken z in subst P e has
        | inr t ↦ elim (Contains-append_cases rest (upto low) x t) as (λ q. Contains taken x) [ inl l ↦ inside x l | inr r ↦ below x (upto_below low x r) ]
      ]

pub counted_set : (count : ℕ) (taken : List ℕ) (f : TakenCalls) (k : CallSet) → AreFlagged count taken f → length taken ≡ k.count → k.low ≡ f.low → length k.rest.items ≡ k.count - f.low
    → AllPairs (λ (p q : ℕ). p < q) k.rest.items → ((p : ℕ) → Contains k.rest.items p → f.low ≤ p) → ((p : ℕ) → Contains k.rest.items p → flag f.flags.items p ≡ true) → IsSetOf taken k
counted_set count taken f k a long low many rising past marked = record {
  count = long;
  are = λ p has. elim (all_there taken k.rest.items f.low below once past (λ q h. a.only q (marked q h)) few p has) as (λ q. (p < k.low) ⊎ Contains k.rest.items p) [
    | inl less ↦ inl (omega (arith, less, low))
    | inr m ↦ inr m
  ];
  only = λ p h. elim h as (λ q. Contains taken p) [ inl less ↦ a.only p (a.low p (omega (arith, less, low))) | inr has ↦ a.only p (marked p has) ];
}
  where
    below : (p : ℕ) → p < f.low → Contains taken p
    below p less = a.only p (a.low p less)

    once : IsOnce k.rest.items
    once = once_pairs k.rest.items (λ i j d under within e. let r = rising i j d under within in omega (arith, r, e))

    few : length taken ≤ f.low + length k.rest.items
    few = let m = low_few taken k.rest.items f.low below in omega (arith, m, long, many)
