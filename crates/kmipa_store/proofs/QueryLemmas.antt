-- Objects that have a name, looked for from place to place.
use Rattle.std.proofs.Common.{◌≡◌, ℕ, zero, suc, ◌+◌, ◌≤◌, Bool, true, false, ◌||◌, cond, List, [], ◌∷◌, length, map, drop, slice_get, Some, None, refl, ap, sym, ◌∙◌, add-one, arith}
use Rattle.std.specs.List.{list_any, position_from}
use Rattle.kmipa_attrs.specs.declared.name.Name.{Name}
use Rattle.kmipa_attrs.specs.Sets.{name_of}
use Rattle.kmipa_store.specs.Queries.{is_name}

pub list_any-map : {X Y : Type 0} (f : X → Y) (p : Y → Bool) (xs : List X) → list_any p (map f xs) ≡ list_any (λ x. p (f x)) xs
list_any-map f p [] = refl
list_any-map f p (x ∷ xs) = ap (λ t. p (f x) || t) (list_any-map f p xs)

pub named_among : (value : List ℕ) (kind : ℕ) (names : List Name) → list_any (λ (n : Name). is_name value kind (name_of n)) names ≡ list_any (is_name value kind) (map name_of names)
named_among value kind names = sym (list_any-map name_of (is_name value kind) names)

pub drop-one : {X : Type 0} (xs : List X) (i : ℕ) (x : X) → slice_get xs i ≡ Some x → drop i xs ≡ x ∷ drop (suc i) xs
drop-one [] i x e = cc
drop-one (y ∷ ys) zero x e = let q : y ≡ x = cc in ap (λ z. z ∷ ys) q
drop-one (y ∷ ys) (suc i) x e = drop-one ys i x e

pub drop-past : {X : Type 0} (xs : List X) (i : ℕ) → length xs ≤ i → drop i xs ≡ []
drop-past [] zero h = refl
drop-past [] (suc i) h = refl
drop-past (x ∷ xs) zero h = absurd (omega arith)
drop-past (x ∷ xs) (suc i) h = drop-past xs i (omega arith)

module _ {X : Type 0} (p : X → Bool) where
  -- a place that was found is that of an element that passes
  pub position_found : (xs : List X) (i k : ℕ) → position_from p i xs ≡ Some k → (j : ℕ) × (k ≡ i + j) × (x : X) × (slice_get xs j ≡ Some x) × (p x ≡ true)
  position_found [] i k e = let bad : ⊥ = cc in absurd bad
  position_found (x ∷ xs) i k e =
      (elim (p x) as (λ t. p x ≡ t → cond t (Some i) (position_from p (i + 1) xs) ≡ Some k → (j : ℕ) × (k ≡ i + j) × (y : X) × (slice_get (x ∷ xs) j ≡ Some y) × (p y ≡ true)) [
        | true ↦ λ is q. let same : i ≡ k = cc in (0, omega (arith, same), x, refl, is)
        | false ↦ λ is q. let r = position_found xs (i + 1) k q in (suc r.0, omega (arith, r.1), r.2, r.3, r.4)
      ]) refl e

  pub position_here : (xs : List X) (i : ℕ) (x : X) → slice_get xs i ≡ Some x → p x ≡ true → position_from p i (drop i xs) ≡ Some i
  position_here xs i x e is = ap (position_from p i) (drop-one xs i x e) ∙ ap (λ t. cond t (Some i) (position_from p (i + 1) (drop (suc i) xs))) is

  pub position_on : (xs : List X) (i : ℕ) (x : X) → slice_get xs i ≡ Some x → p x ≡ false → position_from p i (drop i xs) ≡ position_from p (i + 1) (drop (i + 1) xs)
  position_on xs i x e is =
      ap (position_from p i) (drop-one xs i x e)
      ∙ ap (λ t. cond t (Some i) (position_from p (i + 1) (drop (suc i) xs))) is
      ∙ ap (λ (n : ℕ). position_from p (i + 1) (drop n xs)) (sym (add-one i))

  pub position_past : (xs : List X) (i : ℕ) → length xs ≤ i → position_from p i (drop i xs) ≡ None
  position_past xs i h = ap (position_from p i) (drop-past xs i h)

  pub any_here : (xs : List X) (i : ℕ) (x : X) → slice_get xs i ≡ Some x → p x ≡ true → list_any p (drop i xs) ≡ true
  any_here xs i x e is = ap (list_any p) (drop-one xs i x e) ∙ ap (λ t. t || list_any p (drop (suc i) xs)) is

  pub any_on : (xs : List X) (i : ℕ) (x : X) → slice_get xs i ≡ Some x → p x ≡ false → list_any p (drop i xs) ≡ list_any p (drop (i + 1) xs)
  any_on xs i x e is =
      ap (list_any p) (drop-one xs i x e)
      ∙ ap (λ t. t || list_any p (drop (suc i) xs)) is
      ∙ ap (λ (n : ℕ). list_any p (drop n xs)) (sym (add-one i))
