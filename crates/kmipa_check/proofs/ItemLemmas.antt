-- What is given by number: each is wanted, and none is given twice.
use Rattle.std.proofs.Common.{◌≡◌, ◌≢◌, ◌<◌, ◌≤◌, ◌⊎◌, inl, inr, ◌==◌, ℕ, ◌+◌, ℤ, Bool, true, false, List, map, length, get_or, Contains, Option, Some, None, slice_get, refl, sym, ap, ◌∙◌, subst, arith, add-one}
use Rattle.std.specs.Prelude.{AllPairs}
use Rattle.std.proofs.lemmas.Bool.Decides.{nat_tests}
use Rattle.std.proofs.lemmas.Option.{slice_get_within, slice_get-get_or}
use Rattle.kmipa_check.specs.declared.numbers.FirstPlaces.{FirstPlaces}
use Rattle.kmipa_check.specs.Numbers.{place_in, StandsFirst, Indexes, is_noted, AreWantedOnce}
use Rattle.kmipa_check.proofs.PlaceLemmas.{below_suc, mapped_from, contains_at, at_contains, get_at, at_within}

-- ---- one more is wanted

module _ {X : Type 0} (number : X → ℤ) (W : ℤ → Type 0) (xs : List X) where
  pub once_none : AreWantedOnce number W xs 0
  once_none = record {
    each = λ at x below there. absurd (omega (arith, below));
    first = λ at earlier x y before below there stood same. omega (arith, below);
  }

  pub once_more : (count : ℕ) (x : X) → slice_get xs count ≡ Some x → W (number x)
      → ((earlier : ℕ) (y : X) → earlier < count → slice_get xs earlier ≡ Some y → number y ≡ number x → ⊥)
      → AreWantedOnce number W xs count → AreWantedOnce number W xs (count + 1)
  once_more count x here wanted alone h =
      let P : ℕ → Type 0 = λ n. AreWantedOnce number W xs n in
      subst P (sym (add-one count)) (record {
        each = λ at y below there. each_by at y there (below_suc at count below);
        first = λ at earlier y z before below there stood same. first_by at earlier y z before there stood same (below_suc at count below);
      })
    where
      same_here : (at : ℕ) (y : X) → slice_get xs at ≡ Some y → at ≡ count → x ≡ y
      same_here at y there e = let P : ℕ → Type 0 = λ n. slice_get xs n ≡ Some y in let stands = subst P e there in cc

      each_by : (at : ℕ) (y : X) → slice_get xs at ≡ Some y → (at < count) ⊎ (at ≡ count) → W (number y)
      each_by at y there (inl l) = h.each at y l there
      each_by at y there (inr e) = let P : X → Type 0 = λ z. W (number z) in subst P (same_here at y there e) wanted

      first_by : (at earlier : ℕ) (y z : X) → earlier < at → slice_get xs at ≡ Some y → slice_get xs earlier ≡ Some z → number z ≡ number y → (at < count) ⊎ (at ≡ count) → ⊥
      first_by at earlier y z before there stood same (inl l) = h.first at earlier y z before l there stood same
      first_by at earlier y z before there stood same (inr e) = alone earlier z (omega (arith, before, e)) stood (same ∙ sym (ap number (same_here at y there e)))

  module _ (count : ℕ) (h : AreWantedOnce number W xs count) (past : length xs ≤ count) where
    pub once_each : (x : X) → Contains xs x → W (number x)
    once_each x one = by (at_contains xs x one)
      where
        by : (i : ℕ) × (slice_get xs i ≡ Some x) → W (number x)
        by p = h.each p.0 x (omega (arith, at_within xs p.0 x p.1, past)) p.1

    pub once_all : AllPairs (λ (a b : X). number a ≢ number b) xs
    once_all = λ i j d before within same.
        h.first j i (get_or xs j d) (get_or xs i d) before (omega (arith, within, past)) (slice_get-get_or xs j d within) (slice_get-get_or xs i d (omega (arith, before, within))) same

-- ---- where a number first stands

module _ {X Y : Type 0} (of : X → Y) (number : Y → ℤ) (xs : List X) (places : FirstPlaces) (knows : Indexes (map (λ (x : X). Some (number (of x))) xs) places) where
  abbrev numbers : List (Option ℤ)
  numbers = map (λ (x : X). Some (number (of x))) xs

  reported : (n : ℤ) (v : Option ℕ) → place_in places n ≡ v → StandsFirst numbers (length numbers) n v
  reported n v e = let P : Option ℕ → Type 0 = λ w. StandsFirst numbers (length numbers) n w in subst P e (knows n)

  -- the number of an element stands at its place
  stands : (at : ℕ) (y : Y) → slice_get (map of xs) at ≡ Some y → slice_get numbers at ≡ Some (Some (number y))
  stands at y there =
      let m = mapped_from of xs at y there in
      get_at (λ (x : X). Some (number (of x))) xs at m.0 m.1 ∙ ap (λ (z : Y). Some (Some (number z))) m.2

  pub first_item : (at : ℕ) (n : ℤ) → is_noted (place_in places n) at ≡ true
      → (earlier : ℕ) (other : Y) → earlier < at → slice_get (map of xs) earlier ≡ Some other → number other ≡ n → ⊥
  first_item at n first earlier other before there same = by (place_in places n) refl first
    where
      by : (v : Option ℕ) → place_in places n ≡ v → is_noted v at ≡ true → ⊥
      by None e noted = absurd cc
      by (Some q) e noted =
          let same_place : q ≡ at = grind (arith, nat_tests) in
          (reported n (Some q) e).1.first earlier (omega (arith, before, same_place)) (stands earlier other there ∙ ap (λ (z : ℤ). Some (Some z)) same)

  pub second_item : (at : ℕ) (y : Y) → slice_get (map of xs) at ≡ Some y → is_noted (place_in places (number y)) at ≡ false
      → (earlier : ℕ) × (other : Y) × (earlier < at) × (slice_get (map of xs) earlier ≡ Some other) × (number other ≡ number y)
  second_item at y there not = by (place_in places (number y)) refl not
    where
      here : slice_get numbers at ≡ Some (Some (number y))
      here = stands at y there

      by : (v : Option ℕ) → place_in places (number y) ≡ v → is_noted v at ≡ false
          → (earlier : ℕ) × (other : Y) × (earlier < at) × (slice_get (map of xs) earlier ≡ Some other) × (number other ≡ number y)
      by None e noted = absurd (reported (number y) None e at (slice_get_within numbers at (Some (number y)) here) here)
      by (Some q) e noted =
          let found = (reported (number y) (Some q) e).1 in
          let m = mapped_from (λ (x : X). Some (number (of x))) xs q (Some (number y)) found.there in
          let is : number (of m.0) ≡ number y = let e = m.2 in cc in
          (q, of m.0, under q (λ l. found.first at l here) noted, get_at of xs q m.0 m.1, is)
        where
          under : (q : ℕ) → (at < q → ⊥) → (q == at) ≡ false → q < at
          under q a b = grind (arith, nat_tests)

  pub item_there : (n : ℤ) (q : ℕ) → place_in places n ≡ Some q → (y : Y) × Contains (map of xs) y × (number y ≡ n)
  item_there n q e =
      let found = (reported n (Some q) e).1 in
      let m = mapped_from (λ (x : X). Some (number (of x))) xs q (Some n) found.there in
      let is : number (of m.0) ≡ n = let e = m.2 in cc in
      (of m.0, contains_at (map of xs) q (of m.0) (get_at of xs q m.0 m.1), is)

  pub item_absent : (n : ℤ) → place_in places n ≡ None → (y : Y) → Contains (map of xs) y → number y ≡ n → ⊥
  item_absent n e y one is = by (at_contains (map of xs) y one)
    where
      by : (i : ℕ) × (slice_get (map of xs) i ≡ Some y) → ⊥
      by p =
          let here = stands p.0 y p.1 ∙ ap (λ (z : ℤ). Some (Some z)) is in
          reported n None e p.0 (slice_get_within numbers p.0 (Some n) here) here
