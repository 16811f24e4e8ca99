-- Elements at their places.
use Rattle.std.proofs.Common.{◌≡◌, ◌<◌, ◌⊎◌, inl, inr, ℕ, zero, suc, List, [], ◌∷◌, ◌++◌, map, length, get_or, slice_get, Some, option_map, Contains, refl, sym, ap, ◌∙◌, arith}
use Rattle.std.proofs.lemmas.Option.{slice_get-map, slice_get_read, slice_get_within, get_or_from_slice_get}

pub below_suc : (t n : ℕ) → t < suc n → (t < n) ⊎ (t ≡ n)
below_suc zero zero h = inr refl
below_suc zero (suc n) h = inl (omega arith)
below_suc (suc t) zero h = absurd (omega (arith, h))
below_suc (suc t) (suc n) h = up (below_suc t n (omega (arith, h)))
  where
    up : (t < n) ⊎ (t ≡ n) → (suc t < suc n) ⊎ (suc t ≡ suc n)
    up (inl b) = inl (omega (arith, b))
    up (inr e) = inr (ap suc e)

pub mapped_at : {X Y : Type 0} (f : X → Y) (xs : List X) (i : ℕ) (x : X) → i < length xs → x ≡ get_or xs i x → slice_get (map f xs) i ≡ Some (f x)
mapped_at f xs i x below is = slice_get-map f xs i ∙ ap (option_map f) (slice_get_read xs (length xs) i x refl below is)

-- what stands in a mapped list comes of an element
pub mapped_from : {X Y : Type 0} (f : X → Y) (xs : List X) (i : ℕ) (y : Y) → slice_get (map f xs) i ≡ Some y → (x : X) × (slice_get xs i ≡ Some x) × (f x ≡ y)
mapped_from f [] i y at = absurd cc
mapped_from f (x ∷ xs) zero y at = (x, refl, cc)
mapped_from f (x ∷ xs) (suc i) y at = mapped_from f xs i y at

pub contains_at : {X : Type 0} (xs : List X) (i : ℕ) (x : X) → slice_get xs i ≡ Some x → Contains xs x
contains_at xs i x at = (i, slice_get_within xs i x at, get_or_from_slice_get xs i x x at)

pub at_contains : {X : Type 0} (xs : List X) (x : X) → Contains xs x → (i : ℕ) × (slice_get xs i ≡ Some x)
at_contains xs x c = (c.0, slice_get_read xs (length xs) c.0 x refl c.1 (sym c.2))

-- lists with the same elements at the same places
pub same_elements : {X : Type 0} (xs ys : List X) → length xs ≡ length ys → ((i : ℕ) (x : X) → slice_get xs i ≡ Some x → slice_get ys i ≡ Some x) → xs ≡ ys
same_elements [] [] e h = refl
same_elements [] (y ∷ ys) e h = absurd (omega (arith, e))
same_elements (x ∷ xs) [] e h = absurd (omega (arith, e))
same_elements (x ∷ xs) (y ∷ ys) e h =
    let here : Some y ≡ Some x = h 0 x refl in
    let rest = same_elements xs ys (omega (arith, e)) (λ i z at. h (suc i) z at) in
    cc

pub get_at : {X Y : Type 0} (f : X → Y) (xs : List X) (i : ℕ) (x : X) → slice_get xs i ≡ Some x → slice_get (map f xs) i ≡ Some (f x)
get_at f xs i x at = slice_get-map f xs i ∙ ap (option_map f) at

pub pushed_at : {X : Type 0} (xs : List X) (x : X) (i : ℕ) (y : X) → slice_get (xs ++ x ∷ []) i ≡ Some y → (slice_get xs i ≡ Some y) ⊎ ((i ≡ length xs) × (x ≡ y))
pushed_at [] x zero y at = inr (refl, cc)
pushed_at [] x (suc i) y at = absurd cc
pushed_at (u ∷ xs) x zero y at = inl at
pushed_at (u ∷ xs) x (suc i) y at = up (pushed_at xs x i y at)
  where
    up : (slice_get xs i ≡ Some y) ⊎ ((i ≡ length xs) × (x ≡ y)) → (slice_get xs i ≡ Some y) ⊎ ((suc i ≡ suc (length xs)) × (x ≡ y))
    up (inl h) = inl h
    up (inr p) = inr (ap suc p.0, p.1)

pub some_at : {X : Type 0} (xs : List X) (i : ℕ) → i < length xs → (x : X) × (slice_get xs i ≡ Some x)
some_at [] i below = absurd (omega (arith, below))
some_at (x ∷ xs) zero below = (x, refl)
some_at (x ∷ xs) (suc i) below = some_at xs i (omega (arith, below))

pub at_within : {X : Type 0} (xs : List X) (i : ℕ) (x : X) → slice_get xs i ≡ Some x → i < length xs
at_within xs i x at = slice_get_within xs i x at

-- one place is before another, or after it, or it is the other
pub apart : (i j : ℕ) → (i < j) ⊎ ((j < i) ⊎ (i ≡ j))
apart zero zero = inr (inr refl)
apart zero (suc j) = inl (omega arith)
apart (suc i) zero = inr (inl (omega arith))
apart (suc i) (suc j) = elim (apart i j) [ inl h ↦ inl (omega (arith, h)) | inr g ↦ elim g [ inl h ↦ inr (inl (omega (arith, h))) | inr e ↦ inr (inr (ap suc e)) ] ]
