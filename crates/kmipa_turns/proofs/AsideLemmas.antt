-- What a turn may set aside.
use Rattle.std.proofs.Common.{◌≡◌, ◌<◌, ◌≤◌, ◌⊎◌, inl, inr, ℕ, zero, suc, ◌+◌, ℤ, pos, Bool, true, false, List, [], ◌∷◌, map, drop, length, get_or, Contains, Some, slice_get, refl, sym, ap, ◌∙◌, subst, arith, add-one}
use Rattle.kmipa_places.specs.Calls.{CallOf}
use Rattle.kmipa_places.specs.Places.{place_of}
use Rattle.kmipa_places.specs.declared.place.Place.{Place}
use Rattle.kmipa_check.specs.Deciding.{Decided}
use Rattle.kmipa_check.specs.Numbers.{AreWantedOnce}
use Rattle.kmipa_check.proofs.FillLemmas.{once_at}
use Rattle.kmipa_check.proofs.ItemLemmas.{once_none, once_more, once_each, once_all}
use Rattle.kmipa_check.proofs.PlaceLemmas.{below_suc, contains_at}
use Rattle.kmipa_turns.specs.Steps.{MaySetAside, whole, places, excepted_at, excepted_in, place_count}
use Rattle.kmipa_turns.specs.Turning.{ArePlaces, IsPlaceBelow, StandsBefore}

-- ---- earlier places

-- what stands here stands at none of the first so many places
abbrev pub NoneBefore : List ℤ → ℕ → ℕ → Type 0
NoneBefore asides at count = (earlier : ℕ) (z : ℤ) → earlier < count → slice_get asides earlier ≡ Some z → slice_get asides at ≡ Some z → ⊥

pub before_none : (asides : List ℤ) (at : ℕ) → NoneBefore asides at 0
before_none asides at = λ earlier z below stood there. omega (arith, below)

pub before_more : (asides : List ℤ) (at earlier : ℕ) (x y : ℤ) → slice_get asides earlier ≡ Some x → slice_get asides at ≡ Some y → (x ≡ y → ⊥) → NoneBefore asides at earlier
    → NoneBefore asides at (earlier + 1)
before_more asides at earlier x y stands here differs none =
    let P : ℕ → Type 0 = λ n. NoneBefore asides at n in
    subst P (sym (add-one earlier)) (λ e z below stood there. by e z stood there (below_suc e earlier below))
  where
    by : (e : ℕ) (z : ℤ) → slice_get asides e ≡ Some z → slice_get asides at ≡ Some z → (e < earlier) ⊎ (e ≡ earlier) → ⊥
    by e z stood there (inl l) = none e z l stood there
    by e z stood there (inr same) =
        let P : ℕ → Type 0 = λ n. slice_get asides n ≡ Some z in
        let stood_here = subst P same stood in
        let one : x ≡ y = cc in
        differs one

pub before_all : (asides : List ℤ) (at count : ℕ) → at ≤ count → NoneBefore asides at count → StandsBefore asides at → ⊥
before_all asides at count past none (earlier, z, below, stood, there) = none earlier z (omega (arith, past, below)) stood there

-- ---- places

module _ (count : ℕ) (asides : List ℤ) where
  abbrev pub AreSoFar : ℕ → Type 0
  AreSoFar at = AreWantedOnce (λ (z : ℤ). z) (IsPlaceBelow count) asides at

  pub places_none : AreSoFar 0
  places_none = once_none (λ (z : ℤ). z) (IsPlaceBelow count) asides

  pub places_more : (at : ℕ) (z : ℤ) → slice_get asides at ≡ Some z → IsPlaceBelow count z → (StandsBefore asides at → ⊥) → AreSoFar at → AreSoFar (at + 1)
  places_more at z there below alone h = once_more (λ (z : ℤ). z) (IsPlaceBelow count) asides at z there below (λ earlier y before stood same. by earlier y before stood same) h
    where
      by : (earlier : ℕ) (y : ℤ) → earlier < at → slice_get asides earlier ≡ Some y → y ≡ z → ⊥
      by earlier y before stood same = alone (earlier, z, before, stood ∙ ap Some same, there)

  pub places_all : (at : ℕ) → length asides ≤ at → AreSoFar at → ArePlaces count asides
  places_all at past h = record {
    each = once_each (λ (z : ℤ). z) (IsPlaceBelow count) asides at h past;
    once = once_all (λ (z : ℤ). z) (IsPlaceBelow count) asides at h past;
  }

  pub places_not : (at : ℕ) (z : ℤ) → slice_get asides at ≡ Some z → (IsPlaceBelow count z → ⊥) → ArePlaces count asides → ⊥
  places_not at z there never a = never (a.each z (contains_at asides at z there))

  pub places_twice : (at : ℕ) → StandsBefore asides at → ArePlaces count asides → ⊥
  places_twice at (earlier, z, before, stood, there) a = once_at (λ (z : ℤ). z) asides a.once earlier at z z before stood there refl

  pub may_whole : (call : CallOf) → asides ≡ pos 0 ∷ [] → MaySetAside call asides
  may_whole call e = whole e

  pub may_places : (call : CallOf) (b : Bool) → place_count call ≡ count → (asides ≡ pos 0 ∷ [] → ⊥) → Decided b (ArePlaces count asides) → Decided b (MaySetAside call asides)
  may_places call true e none a =
      let P : ℕ → Type 0 = λ n. (aside : ℤ) → Contains asides aside → IsPlaceBelow n aside in
      places (subst P (sym e) a.each) a.once
  may_places call false e none a = λ may. by may
    where
      by : MaySetAside call asides → ⊥
      by (whole w) = none w
      by (places each once) =
          let P : ℕ → Type 0 = λ n. (aside : ℤ) → Contains asides aside → IsPlaceBelow n aside in
          a (record { each = subst P e each; once = once })

-- ---- places that are aside by the witness alone

pub excepted_next : (ps : List Place) (at : ℕ) (p : Place) → at < length ps → p ≡ get_or ps at p
    → excepted_in (map place_of (drop at ps)) ≡ excepted_at (place_of p) + excepted_in (map place_of (drop (suc at) ps))
excepted_next [] at p below is = absurd (omega (arith, below))
excepted_next (q ∷ ps) zero p below is = ap (λ (x : Place). excepted_at (place_of x) + excepted_in (map place_of ps)) (sym is)
excepted_next (q ∷ ps) (suc at) p below is = excepted_next ps at p (omega (arith, below)) is

-- so many so far, and those of the places that are left
pub record ExceptedSoFar (ps : List Place) (at count : ℕ) : Type 0 where
  pub sum : count + excepted_in (map place_of (drop at ps)) ≡ excepted_in (map place_of ps)
  pub within : count ≤ at

pub excepted_none : (ps : List Place) → ExceptedSoFar ps 0 0
excepted_none ps = record { sum = omega arith; within = omega arith }

pub excepted_more : (ps : List Place) (at count more : ℕ) (p : Place) → at < length ps → p ≡ get_or ps at p → more ≡ excepted_at (place_of p) → more ≤ 1 → ExceptedSoFar ps at count
    → ExceptedSoFar ps (at + 1) (count + more)
excepted_more ps at count more p below is e one h =
    let P : ℕ → Type 0 = λ n. ExceptedSoFar ps n (count + more) in
    let next = excepted_next ps at p below is in
    let sum = h.sum in
    let within = h.within in
    subst P (sym (add-one at)) (record { sum = omega (arith, next, sum, e); within = omega (arith, within, one) })

none_behind : (ps : List Place) (at : ℕ) → length ps ≤ at → excepted_in (map place_of (drop at ps)) ≡ 0
none_behind [] zero past = refl
none_behind [] (suc at) past = refl
none_behind (q ∷ ps) zero past = absurd (omega (arith, past))
none_behind (q ∷ ps) (suc at) past = none_behind ps at (omega (arith, past))

pub excepted_all : (ps : List Place) (at count : ℕ) → length ps ≤ at → ExceptedSoFar ps at count → count ≡ excepted_in (map place_of ps)
excepted_all ps at count past h = let none = none_behind ps at past in let sum = h.sum in omega (arith, none, sum)
