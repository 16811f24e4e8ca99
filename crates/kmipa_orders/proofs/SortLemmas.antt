-- Places sorted by keys.
use Rattle.std.proofs.Common.{◌≡◌, ◌≢◌, ◌<◌, ◌≤◌, ◌<ℤ◌, inl, inr, ℕ, suc, ◌-◌, ℤ, Bool, false, List, ◌∷◌, map, length, get_or, Contains, Some, slice_get, Ordering, Less, Equal, Greater, Result, Ok, Err, refl, sym, ap, ◌∙◌, subst, arith}
use Rattle.std.specs.Prelude.{AllPairs, IsPermutation, IfOk}
use Rattle.std.specs.List.Sorted.{IsSortedBy}
use Rattle.std.specs.Cmp.{IsStrictWeakOrder}
use Rattle.std.specs.Ordering.{ordering_then, nat_cmp, int_cmp, is_lt, MatchOrdering}
use Rattle.std.proofs.lemmas.Cmp.{ranked, int_ranked, then_total, on_total, nat_cmp_total, int_cmp_total}
use Rattle.std.proofs.lemmas.List.{length-map}
use Rattle.std.proofs.lemmas.List.Sorted.{IsPermutation-map, IsPermutation-sym, Contains-permutation, length_permutation, sorted_far, ranks_by}
use Rattle.std.proofs.lemmas.Option.{get_or_from_slice_get, slice_get-get_or, slice_get_within}
use Rattle.kmipa_check.specs.Steps.{StepOf}
use Rattle.kmipa_check.proofs.PlaceLemmas.{contains_at, at_contains, mapped_from}
use Rattle.kmipa_orders.proofs.PermutationLemmas.{IsOnce, contains_mapped}
use Rattle.kmipa_orders.specs.Taken.{step_at}
use Rattle.kmipa_orders.specs.Links.{at}
use Rattle.kmipa_orders.specs.Ranks.{IsRanked, ByStamp, ByEnd, HasRank, AreNoted, end_of}
use Rattle.kmipa_orders.proofs.PlaceLemmas.{once_at, one_place}
use Rattle.kmipa_orders.proofs.CutLemmas.{once_permuted}

pub if_ok : {X E : Type 0} (P Q : X → Type 0) (result : Result X E) → ((x : X) → P x → Q x) → IfOk result P → IfOk result Q
if_ok P Q (Ok x) f h = f x h
if_ok P Q (Err e) f h = tt

module _ {K : Type 0} (f : ℕ → K) (n : ℕ) (ks ss : List (K × ℕ)) (lt : K × ℕ → K × ℕ → Bool) (order : IsStrictWeakOrder lt)
    (long : length ks ≡ n) (keys : (k : ℕ) (d : K × ℕ) → k < n → get_or ks k d ≡ (f k, k)) (p : IsPermutation ks ss) (sorted : IsSortedBy lt ss) where
  abbrev pub places : List ℕ
  places = map (λ (s : K × ℕ). s.1) ss

  long_places : length places ≡ n
  long_places = length-map ss (λ (s : K × ℕ). s.1) ∙ length_permutation ks ss p ∙ long

  -- each key is its place's
  key_at : (k : ℕ) (s : K × ℕ) → slice_get ks k ≡ Some s → s ≡ (f k, k)
  key_at k s at = sym (get_or_from_slice_get ks k s s at) ∙ keys k s (omega (arith, slice_get_within ks k s at, long))

  own : (s : K × ℕ) → Contains ss s → (s ≡ (f s.1, s.1)) × (s.1 < n)
  own s h =
      let q = at_contains ks s (Contains-permutation ss ks s (IsPermutation-sym ks ss p) h) in
      let e = key_at q.0 s q.1 in
      let same : s.1 ≡ q.0 = ap (λ (x : K × ℕ). x.1) e in
      let P : ℕ → Type 0 = λ k. s ≡ (f k, k) in
      (subst P (sym same) e, omega (arith, same, slice_get_within ks q.0 s q.1, long))

  -- each place is there
  all_there : (q : ℕ) → q < n → Contains places q
  all_there q below =
      let s : K × ℕ = (f q, q) in
      let there : slice_get ks q ≡ Some s = slice_get-get_or ks q s (omega (arith, below, long)) ∙ ap Some (keys q s below) in
      contains_mapped (λ (x : K × ℕ). x.1) ss s (Contains-permutation ks ss s p (contains_at ks q s there))

  once_places : IsOnce places
  once_places =
      let first : IsOnce (map (λ (s : K × ℕ). s.1) ks) = once_at (map (λ (s : K × ℕ). s.1) ks) (λ i j x less a b. by i j x less a b) in
      once_permuted (map (λ (s : K × ℕ). s.1) ks) places first (IsPermutation-map (λ (s : K × ℕ). s.1) ks ss p)
    where
      from : (i x : ℕ) → slice_get (map (λ (s : K × ℕ). s.1) ks) i ≡ Some x → x ≡ i
      from i x a =
          let m = mapped_from (λ (s : K × ℕ). s.1) ks i x a in
          sym m.2 ∙ ap (λ (s : K × ℕ). s.1) (key_at i m.0 m.1)

      by : (i j x : ℕ) → i < j → slice_get (map (λ (s : K × ℕ). s.1) ks) i ≡ Some x → slice_get (map (λ (s : K × ℕ). s.1) ks) j ≡ Some x → ⊥
      by i j x less a b = omega (arith, less, from i x a, from j x b)

  there_at : (k : ℕ) → k < n → slice_get places k ≡ Some (at places k)
  there_at k below = slice_get-get_or places k 0 (omega (arith, below, long_places))

  pub differ : AllPairs (λ (x y : ℕ). x ≢ y) places
  differ i j d less within e =
      let a = slice_get-get_or places i d (omega (arith, less, within)) in
      let b = slice_get-get_or places j d within in
      omega (arith, less, one_place places i j (get_or places j d) once_places (a ∙ ap Some e) b)

  -- the key at a place of the order
  own_at : (k : ℕ) → k < n → (s : K × ℕ) × (slice_get ss k ≡ Some s) × (s.1 ≡ at places k) × (s ≡ (f (at places k), at places k)) × (at places k < n)
  own_at k below =
      let m = mapped_from (λ (s : K × ℕ). s.1) ss k (at places k) (there_at k below) in
      let o = own m.0 (contains_at ss k m.0 m.1) in
      let P : ℕ → Type 0 = λ q. m.0 ≡ (f q, q) in
      (m.0, m.1, m.2, subst P m.2 o.0, omega (arith, o.1, m.2))

  -- of two places of the order the later isn't less
  far : (i j : ℕ) → i < j → j < n → lt (f (at places j), at places j) (f (at places i), at places i) ≡ false
  far i j less below =
      let a = own_at i (omega (arith, less, below)) in
      let b = own_at j below in
      let h = sorted_far lt order ss sorted i j a.0 (omega (arith, less)) (slice_get_within ss j b.0 b.1) in
      let P : K × ℕ → Type 0 = λ x. lt x (get_or ss i a.0) ≡ false in
      let Q : K × ℕ → Type 0 = λ x. lt (f (at places j), at places j) x ≡ false in
      subst Q (get_or_from_slice_get ss i a.0 a.0 a.1 ∙ a.3) (subst P (get_or_from_slice_get ss j b.0 a.0 b.1 ∙ b.3) h)

  module _ (Le : ℕ → ℕ → Type 0) (le : (x y : ℕ) → x < n → y < n → x ≢ y → lt (f y, y) (f x, x) ≡ false → Le x y) (rank : List ℕ) (noted : AreNoted places (length places) rank) where
    rank_at : (k : ℕ) → k < n → at rank (at places k) ≡ suc k
    rank_at k below = noted k (omega (arith, below, long_places)) (omega (arith, long_places, (own_at k below).4))

    found : (q : ℕ) → q < n → (k : ℕ) × (k < n) × (at places k ≡ q)
    found q below =
        let h = at_contains places q (all_there q below) in
        (h.0, omega (arith, slice_get_within places h.0 q h.1, long_places), get_or_from_slice_get places h.0 q 0 h.1)

    pub ranked_so : IsRanked n Le (0 ∷ places) rank × HasRank n rank
    ranked_so = (record { placed = λ q below. placed q below (found q below); sorted = λ x y a b less. sort x y a b less (found x a) (found y b) }, λ r some within. has r some within)
      where
        placed : (q : ℕ) → q < n → (k : ℕ) × (k < n) × (at places k ≡ q) → (0 < at rank q) × (at rank q ≤ n) × (at (0 ∷ places) (at rank q) ≡ q)
        placed q below k =
            let e : at rank q ≡ suc k.0 = ap (at rank) (sym k.2) ∙ rank_at k.0 k.1 in
            (omega (arith, e), omega (arith, e, k.1), ap (at (0 ∷ places)) e ∙ k.2)

        sort : (x y : ℕ) → x < n → y < n → at rank x < at rank y → (k : ℕ) × (k < n) × (at places k ≡ x) → (k : ℕ) × (k < n) × (at places k ≡ y) → Le x y
        sort x y a b less i j =
            let e : at rank x ≡ suc i.0 = ap (at rank) (sym i.2) ∙ rank_at i.0 i.1 in
            let g : at rank y ≡ suc j.0 = ap (at rank) (sym j.2) ∙ rank_at j.0 j.1 in
            let h = far i.0 j.0 (omega (arith, less, e, g)) j.1 in
            let P : ℕ → Type 0 = λ v. lt (f v, v) (f (at places i.0), at places i.0) ≡ false in
            let Q : ℕ → Type 0 = λ v. lt (f y, y) (f v, v) ≡ false in
            le x y a b (λ same. omega (arith, less, ap (at rank) same)) (subst Q i.2 (subst P j.2 h))

        has : (r : ℕ) → 0 < r → r ≤ n → (q : ℕ) × (q < n) × (at rank q ≡ r)
        has r some within =
            let k = own_at (r - 1) (omega (arith, some, within)) in
            (at places (r - 1), k.4, rank_at (r - 1) (omega (arith, some, within)) ∙ (omega (arith, some)))

  pub ranked_as : (Le : ℕ → ℕ → Type 0) → ((x y : ℕ) → x < n → y < n → x ≢ y → lt (f y, y) (f x, x) ≡ false → Le x y) → (order rank xs : List ℕ) → xs ≡ places → order ≡ 0 ∷ xs
      → (AllPairs (λ (x y : ℕ). x ≢ y) xs → AreNoted xs (length xs) rank) → IsRanked n Le order rank × HasRank n rank
  ranked_as Le le order rank xs same is noted =
      let P : List ℕ → Type 0 = λ o. IsRanked n Le o rank × HasRank n rank in
      let A : List ℕ → Type 0 = λ ys. AllPairs (λ (x y : ℕ). x ≢ y) ys in
      let N : List ℕ → Type 0 = λ ys. AreNoted ys (length ys) rank in
      subst P (sym (is ∙ ap (λ (ys : List ℕ). 0 ∷ ys) same)) (ranked_so Le le rank (subst N same (noted (subst A (sym same) differ))))

-- ---- the two orders

pub by_stamp_of : (calls : List StepOf) (x y : ℕ) → x ≢ y
    → is_lt (ordering_then (int_cmp (step_at calls y).response.stamp (step_at calls x).response.stamp) (nat_cmp y x)) ≡ false → ByStamp calls x y
by_stamp_of calls x y apart h = by (int_cmp (step_at calls y).response.stamp (step_at calls x).response.stamp) (int_ranked (step_at calls y).response.stamp (step_at calls x).response.stamp _ refl) h
  where
    next : (o : Ordering) → MatchOrdering o (y < x) (y ≡ x) (x < y) → is_lt o ≡ false → x < y
    next Less m e = absurd cc
    next Equal m e = absurd (apart (sym m))
    next Greater m e = m

    by : (o : Ordering) → MatchOrdering o ((step_at calls y).response.stamp <ℤ (step_at calls x).response.stamp) ((step_at calls y).response.stamp ≡ (step_at calls x).response.stamp) ((step_at calls x).response.stamp <ℤ (step_at calls y).response.stamp)
        → is_lt (ordering_then o (nat_cmp y x)) ≡ false → ByStamp calls x y
    by Less m e = absurd cc
    by Equal m e = inr (sym m, next (nat_cmp y x) (ranked y x _ refl) e)
    by Greater m e = inl m

pub by_end_of : (calls : List StepOf) (x y : ℕ) → is_lt (ordering_then (nat_cmp (end_of (step_at calls y)) (end_of (step_at calls x))) (nat_cmp y x)) ≡ false → ByEnd calls x y
by_end_of calls x y h = by (nat_cmp (end_of (step_at calls y)) (end_of (step_at calls x))) (ranked (end_of (step_at calls y)) (end_of (step_at calls x)) _ refl) h
  where
    by : (o : Ordering) → MatchOrdering o ((end_of (step_at calls y)) < (end_of (step_at calls x))) ((end_of (step_at calls y)) ≡ (end_of (step_at calls x))) ((end_of (step_at calls x)) < (end_of (step_at calls y)))
        → is_lt (ordering_then o (nat_cmp y x)) ≡ false → ByEnd calls x y
    by Less m e = absurd cc
    by Equal m e = omega (arith, m)
    by Greater m e = omega (arith, m)

pub stamps_total : IsStrictWeakOrder (λ (x y : ℤ × ℕ). is_lt (ordering_then (int_cmp x.0 y.0) (nat_cmp x.1 y.1)))
stamps_total = ranks_by (then_total (on_total (λ (p : ℤ × ℕ). p.0) int_cmp_total) (on_total (λ (p : ℤ × ℕ). p.1) nat_cmp_total)) (λ (p : ℤ × ℕ). p)

pub ends_total : IsStrictWeakOrder (λ (x y : ℕ × ℕ). is_lt (ordering_then (nat_cmp x.0 y.0) (nat_cmp x.1 y.1)))
ends_total = ranks_by (then_total (on_total (λ (p : ℕ × ℕ). p.0) nat_cmp_total) (on_total (λ (p : ℕ × ℕ). p.1) nat_cmp_total)) (λ (p : ℕ × ℕ). p)

-- keys whose second part is their place
pub own_keys : (ks : List (ℕ × ℕ)) (n k : ℕ) (d : ℕ × ℕ) → k < n → length ks ≡ n → ((i : ℕ) (e : ℕ × ℕ) → i < n → (get_or ks i e).1 ≡ i) → get_or ks k d ≡ ((get_or ks k (0, 0)).0, k)
own_keys ks n k d below long second =
    let here = slice_get-get_or ks k d (omega (arith, below, long)) in
    let same : get_or ks k (0, 0) ≡ get_or ks k d = get_or_from_slice_get ks k (get_or ks k d) (0, 0) here in
    pair (get_or ks k d) (get_or ks k (0, 0)) (sym same) (second k d below)
  where
    pair : (x y : ℕ × ℕ) → x ≡ y → x.1 ≡ k → x ≡ (y.0, k)
    pair (a, b) (c, e) same is = let first : a ≡ c = ap (λ (z : ℕ × ℕ). z.0) same in ap (λ (z : ℕ). (z, b)) first ∙ ap (λ (z : ℕ). (c, z)) is
