-- An item and its answer, by their place.
use Rattle.std.proofs.Common.{◌≡◌, ◌≤◌, ◌<◌, ℕ, ◌+◌, ◌-◌, zero, suc, List, length, Option, Some, None, option_map, slice_get, refl, sym, ap, ◌∙◌, subst, arith}
use Rattle.std.specs.List.{zip}
use Rattle.std.proofs.lemmas.Option.{slice_get_within}
use Rattle.kmipa_batch.proofs.PlaceLemmas.{both, zip_get}
use Rattle.kmipa_explain.specs.Places.{at_item}

-- an item, counted from 1, stands at the place before it
pub at_before : {A : Type 0} (xs : List A) (item : ℕ) → 1 ≤ item → at_item xs item ≡ slice_get xs (item - 1)
at_before xs zero some = absurd (omega (arith, some))
at_before xs (suc place) some = let e : place ≡ suc place - 1 = omega arith in ap (slice_get xs) e

-- and the next of a place, counted from 0
pub at_next : {A : Type 0} (xs : List A) (place : ℕ) → at_item xs (place + 1) ≡ slice_get xs place
at_next xs place = let e : suc place ≡ place + 1 = omega arith in let P : ℕ → Type 0 = λ n. at_item xs n ≡ slice_get xs place in subst P e refl

-- it is counted from 1
pub item_some : {A : Type 0} (xs : List A) (item : ℕ) (x : A) → at_item xs item ≡ Some x → 1 ≤ item
item_some xs zero x at = absurd cc
item_some xs (suc place) x at = omega arith

left_of : {A B : Type 0} (a : Option A) (b : Option B) (x : A) (y : B) → both a b ≡ Some (x, y) → a ≡ Some x
left_of None b x y e = absurd cc
left_of (Some a) None x y e = absurd cc
left_of {A} {B} (Some a) (Some b) x y e = ap (λ (o : Option (A × B)). option_map (λ (p : A × B). p.0) o) e

right_of : {A B : Type 0} (a : Option A) (b : Option B) (x : A) (y : B) → both a b ≡ Some (x, y) → b ≡ Some y
right_of None b x y e = absurd cc
right_of (Some a) None x y e = absurd cc
right_of {A} {B} (Some a) (Some b) x y e = ap (λ (o : Option (A × B)). option_map (λ (p : A × B). p.1) o) e

module _ {A B : Type 0} (xs : List A) (ys : List B) (item : ℕ) (x : A) (y : B) (at : at_item (zip xs ys) item ≡ Some (x, y)) where
  there : both (slice_get xs (item - 1)) (slice_get ys (item - 1)) ≡ Some (x, y)
  there = sym (zip_get xs ys (item - 1)) ∙ sym (at_before (zip xs ys) item (item_some (zip xs ys) item (x, y) at)) ∙ at

  pub pair_some : 1 ≤ item
  pair_some = item_some (zip xs ys) item (x, y) at

  pub asked_at : slice_get xs (item - 1) ≡ Some x
  asked_at = left_of (slice_get xs (item - 1)) (slice_get ys (item - 1)) x y there

  pub answered_at : slice_get ys (item - 1) ≡ Some y
  answered_at = right_of (slice_get xs (item - 1)) (slice_get ys (item - 1)) x y there

  pub asked_within : item - 1 < length xs
  asked_within = slice_get_within xs (item - 1) x asked_at

  pub answered_within : item - 1 < length ys
  answered_within = slice_get_within ys (item - 1) y answered_at

  -- what stands at the item's place on each side is of the pair
  pub pair_is : (a : A) (b : B) → at_item xs item ≡ Some a → at_item ys item ≡ Some b → (a ≡ x) × (b ≡ y)
  pair_is a b on_left on_right =
      let p : at_item xs item ≡ Some x = at_before xs item pair_some ∙ asked_at in
      let q : at_item ys item ≡ Some y = at_before ys item pair_some ∙ answered_at in
      (cc, cc)
