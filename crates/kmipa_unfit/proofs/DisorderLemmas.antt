-- Numbers with nothing wrong are an order of the answered items.
use Rattle.std.proofs.Common.{◌≡◌, ◌<◌, ◌≤◌, inl, inr, ℕ, zero, suc, ◌+◌, ◌-◌, ℤ, pos, List, [], ◌∷◌, length, Contains, Option, Some, None, slice_get, refl, sym, ap, ◌∙◌, subst, arith, add-one}
use Rattle.std.proofs.lemmas.List.{length-map}
use Rattle.kmipa_msgs.specs.Messages.{RequestOf, ResponseOf}
use Rattle.kmipa_batch.specs.Fits.{FailedAt}
use Rattle.kmipa_batch.specs.Shapes.{IsFirstFailed, NoneFailed}
use Rattle.kmipa_batch.specs.Standing.{EndsAt, StandOnce}
use Rattle.kmipa_batch.proofs.StandingLemmas.{are_order}
use Rattle.kmipa_check.specs.Places.{place_numbers}
use Rattle.kmipa_check.proofs.PlaceLemmas.{apart, at_contains, at_within, get_at, mapped_from}
use Rattle.kmipa_unfit.specs.OrderFinding.{AreOnce, AreWithin, HasItem, HaveAll, IsBeyond, IsOrderless, IsWithin}
use Rattle.kmipa_unfit.specs.UnfitOrders.{AreAnswered, IsMissing, IsNotLast, IsUnanswered}

-- numbers from 1 on are places
places_in : (numbers : List ℤ) → ((at : ℕ) (number : ℤ) → slice_get numbers at ≡ Some number → (place : ℕ) × (number ≡ pos (place + 1))) → (places : List ℕ) × (numbers ≡ place_numbers places)
places_in [] from = ([], refl)
places_in (n ∷ numbers) from =
    let here = from 0 n refl in
    let rest = places_in numbers (λ at number there. from (suc at) number there) in
    ((here.0 + 1) ∷ rest.0, ap (λ (z : ℤ). z ∷ numbers) here.1 ∙ ap (λ (zs : List ℤ). pos (here.0 + 1) ∷ zs) rest.1)

module _ (request : RequestOf) (response : ResponseOf) (numbers : List ℤ) (count : ℕ) (counted : AreAnswered request response count) (orderless : IsOrderless request response numbers)
    (within : AreWithin numbers count) (once : AreOnce numbers) (all : HaveAll numbers count) where
  given : (places : List ℕ) × (numbers ≡ place_numbers places)
  given = places_in numbers (λ at number there. let w = within at number there in (w.0, w.1))

  abbrev places : List ℕ
  places = given.0

  number_at : (position place : ℕ) → slice_get places position ≡ Some place → slice_get numbers position ≡ Some (pos place)
  number_at position place there = ap (λ (zs : List ℤ). slice_get zs position) given.1 ∙ get_at (λ (p : ℕ). pos p) places position place there

  place_at : (position k : ℕ) → slice_get numbers position ≡ Some (pos (k + 1)) → slice_get places position ≡ Some (suc k)
  place_at position k there =
      let m = mapped_from (λ (p : ℕ). pos p) places position (pos (k + 1)) (ap (λ (zs : List ℤ). slice_get zs position) (sym given.1) ∙ there) in
      let same : m.0 ≡ k + 1 = (let e = m.2 in cc) in
      m.1 ∙ ap Some (same ∙ add-one k)

  stand : StandOnce places count
  stand = record {
    within = λ position place there.
        let w = within position (pos place) (number_at position place there) in
        let same : place ≡ w.0 + 1 = (let e = w.1 in cc) in
        (w.0, same ∙ add-one w.0, (let b = w.2 in omega (arith, b)));
    all = λ k below. let h = all k (omega (arith, below)) in (h.0, place_at h.0 k h.2);
    once = λ i j place a b. elim (apart i j) [
      | inl h ↦ absurd (once j (pos place) (number_at j place b) (i, h, number_at i place a))
      | inr g ↦ elim g [ inl h ↦ absurd (once i (pos place) (number_at i place a) (j, h, number_at j place b)) | inr e ↦ e ]
    ];
  }

  few : (k : ℕ) → suc k ≤ count → (k < length request.items) × (k < length response.items)
  few k below = (counted k).0 (omega (arith, below))

  most : (k : ℕ) → k < length request.items → k < length response.items → suc k ≤ count
  most k a b = let h = (counted k).1 (a, b) in omega (arith, h)

  no_end : (failed : Option ℕ) → FailedAt response.items failed → EndsAt request.option failed places → ⊥
  no_end failed first ends = orderless places given.1 (are_order request response places count few most stand failed first ends)

  pub none_failed : NoneFailed response.items → ⊥
  none_failed none = no_end None none (λ differs f same. absurd cc)

  pub not_last : (failed : ℕ) → IsFirstFailed response.items failed → IsNotLast request response numbers (failed + 1)
  not_last failed first = record {
    place = failed;
    counted = refl;
    ends = λ continues. no_end (Some failed) first (λ differs f same. absurd (differs continues));
    failed = first;
    ahead = λ last. no_end (Some failed) first (λ differs f same. stands f same last);
  }
    where
      stands : (f : ℕ) → Some failed ≡ Some f → slice_get numbers (length numbers - 1) ≡ Some (pos (failed + 1)) → slice_get places (length places - 1) ≡ Some (f + 1)
      stands f same last =
          let long : length numbers ≡ length places = ap length given.1 ∙ length-map places (λ (p : ℕ). pos p) in
          let there : slice_get numbers (length places - 1) ≡ Some (pos (failed + 1)) = ap (λ (n : ℕ). slice_get numbers (n - 1)) (sym long) ∙ last in
          let is : failed ≡ f = cc in
          place_at (length places - 1) failed there ∙ ap Some (sym (add-one failed) ∙ ap (λ (n : ℕ). n + 1) is)

-- a number beyond the answered items is that of none of them
pub beyond : (request : RequestOf) (response : ResponseOf) (count : ℕ) (number : ℤ) → AreAnswered request response count → (IsWithin count number → ⊥) → IsUnanswered request response number
beyond request response count number counted not place is answered = not (place, is, (counted place).1 answered)

-- the number of an item that is left isn't there
pub is_missing : (request : RequestOf) (response : ResponseOf) (numbers : List ℤ) (count place item : ℕ) → AreAnswered request response count → item ≡ place + 1 → place < count
    → (HasItem numbers place → ⊥) → IsMissing request response numbers item
is_missing request response numbers count place item counted is below none = record {
  place = place;
  counted = is;
  answered = (counted place).0 below;
  absent = λ has. by has (at_contains numbers (pos item) has);
}
  where
    by : Contains numbers (pos item) → (i : ℕ) × (slice_get numbers i ≡ Some (pos item)) → ⊥
    by has p = none (p.0, at_within numbers p.0 (pos item) p.1, p.1 ∙ ap (λ (n : ℕ). Some (pos n)) is)

-- so many items are answered, and no more than the request has
pub few_answered : (request : RequestOf) (response : ResponseOf) (count : ℕ) → AreAnswered request response count → count ≤ length request.items
few_answered request response zero counted = omega arith
few_answered request response (suc n) counted = let a = ((counted n).0 (omega arith)).0 in omega (arith, a)

-- the item told stands so
pub not_last_at : (request : RequestOf) (response : ResponseOf) (numbers : List ℤ) (item failed : ℕ) → item ≡ failed + 1 → IsNotLast request response numbers (failed + 1) → IsNotLast request response numbers item
not_last_at request response numbers item failed is h = let P : ℕ → Type 0 = λ n. IsNotLast request response numbers n in subst P (sym is) h

-- what is told of such a number
pub beyond_told : (request : RequestOf) (response : ResponseOf) (numbers : List ℤ) (count : ℕ) (number : ℤ) → AreAnswered request response count → IsBeyond numbers count number
    → Contains numbers number × IsUnanswered request response number
beyond_told request response numbers count number counted h = (h.0, beyond request response count number counted h.1)
