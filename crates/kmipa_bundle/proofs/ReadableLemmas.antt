-- What there is to judge at each place of a call.
use Rattle.std.proofs.Common.{◌≡◌, ◌∙◌, ◌||◌, refl, sym, ap, subst, ℕ, zero, suc, Bool, true, false, ◌&&◌, List, [], ◌∷◌, map, Some, slice_get}
use Rattle.std.specs.List.{list_all}
use Rattle.std.proofs.lemmas.List.Folds.{list_all-map}
use Rattle.kmipa_places.specs.Calls.{ReadOf}
use Rattle.kmipa_places.specs.Places.{PlaceOf, place_of}
use Rattle.kmipa_places.specs.declared.place.Place.{Place}
use Rattle.kmipa_bundle.specs.Refusals.{is_readable_at, is_readable_call}

first_of : {A : Type 0} (f : A → Bool) (x : A) (xs : List A) → list_all f (x ∷ xs) ≡ true → (f x ≡ true) × (list_all f xs ≡ true)
first_of f x xs e =
    elim (f x) as (λ b. f x ≡ b → (f x ≡ true) × (list_all f xs ≡ true)) [
      | true ↦ λ is. (is, (let P : Bool → Type 0 = λ b. (b && list_all f xs) ≡ true in subst P is e))
      | false ↦ λ is. (let P : Bool → Type 0 = λ b. (b && list_all f xs) ≡ true in let bad : false ≡ true = subst P is e in let no : ⊥ = cc in absurd no)
    ] refl

pub readable_there : (places : List PlaceOf) (n : ℕ) (place : PlaceOf) → list_all is_readable_at places ≡ true → slice_get places n ≡ Some place → is_readable_at place ≡ true
readable_there [] n place r e = let bad : ⊥ = cc in absurd bad
readable_there (x ∷ xs) zero place r e =
    let is : x ≡ place = cc in
    ap is_readable_at (sym is) ∙ (first_of is_readable_at x xs r).0
readable_there (x ∷ xs) (suc n) place r e = readable_there xs n place (first_of is_readable_at x xs r).1 e

-- as it is computed
pub else_readable : (c : ReadOf) (places items : List Place) (reported : Bool) → c.refused ≡ false → places ≡ items → c.places ≡ map place_of items
    → reported ≡ list_all (λ (place : Place). is_readable_at (place_of place)) places → reported ≡ is_readable_call c
else_readable c places items reported unrefused is at e =
    e ∙ ap (list_all (λ (place : Place). is_readable_at (place_of place))) is ∙ sym (list_all-map is_readable_at place_of items) ∙ ap (list_all is_readable_at) (sym at)
    ∙ ap (λ (b : Bool). b || list_all is_readable_at c.places) (sym unrefused)

or_readable : (refused all : Bool) → refused ≡ false → (refused || all) ≡ true → all ≡ true
or_readable false all is e = e
or_readable true all is e = let bad : ⊥ = cc in absurd bad

-- unless the message is refused as a whole
pub all_are_readable : (c : ReadOf) → is_readable_call c ≡ true → c.refused ≡ false → list_all is_readable_at c.places ≡ true
all_are_readable c e unrefused = or_readable c.refused (list_all is_readable_at c.places) unrefused e
