-- Elements of lists that grow, and of lists one element of which is put anew.
use Rattle.std.proofs.Common.{◌≡◌, ◌≢◌, ◌<◌, ◌⊎◌, inl, inr, ℕ, zero, suc, List, [], ◌∷◌, ◌++◌, map, length, Some, slice_get, refl, sym, ap, ◌∙◌, arith}
use Rattle.std.proofs.Math.ListN.{set}

-- an element stays at its place as more come
pub grown_at : {X : Type 0} (xs ys : List X) (i : ℕ) (x : X) → slice_get xs i ≡ Some x → slice_get (xs ++ ys) i ≡ Some x
grown_at [] ys i x at = absurd cc
grown_at (y ∷ xs) ys zero x at = at
grown_at (y ∷ xs) ys (suc i) x at = grown_at xs ys i x at

-- and what stands among the first stood there before
pub front_at : {X : Type 0} (xs ys : List X) (i : ℕ) (x : X) → i < length xs → slice_get (xs ++ ys) i ≡ Some x → slice_get xs i ≡ Some x
front_at [] ys i x below at = absurd (omega (arith, below))
front_at (y ∷ xs) ys zero x below at = at
front_at (y ∷ xs) ys (suc i) x below at = front_at xs ys i x (omega (arith, below)) at

-- the element behind the others
pub last_at : {X : Type 0} (xs : List X) (x : X) → slice_get (xs ++ x ∷ []) (length xs) ≡ Some x
last_at [] x = refl
last_at (y ∷ xs) x = last_at xs x

-- what stands in a list with one element put anew: that one, or what stood there
pub set_cases : {X : Type 0} (xs : List X) (i j : ℕ) (x y : X) → slice_get (set xs i x) j ≡ Some y → ((j ≡ i) × (x ≡ y)) ⊎ ((j ≢ i) × (slice_get xs j ≡ Some y))
set_cases [] i j x y at = absurd cc
set_cases (z ∷ xs) zero zero x y at = inl (refl, cc)
set_cases (z ∷ xs) zero (suc j) x y at = inr ((λ e. omega (arith, e)), at)
set_cases (z ∷ xs) (suc i) zero x y at = inr ((λ e. omega (arith, e)), at)
set_cases (z ∷ xs) (suc i) (suc j) x y at = up (set_cases xs i j x y at)
  where
    up : ((j ≡ i) × (x ≡ y)) ⊎ ((j ≢ i) × (slice_get xs j ≡ Some y)) → ((suc j ≡ suc i) × (x ≡ y)) ⊎ ((suc j ≢ suc i) × (slice_get xs j ≡ Some y))
    up (inl h) = inl (ap suc h.0, h.1)
    up (inr h) = inr ((λ e. h.0 (omega (arith, e))), h.1)

-- the element that is put anew is there
pub set_here : {X : Type 0} (xs : List X) (i : ℕ) (x z : X) → slice_get xs i ≡ Some z → slice_get (set xs i x) i ≡ Some x
set_here [] i x z at = absurd cc
set_here (y ∷ xs) zero x z at = refl
set_here (y ∷ xs) (suc i) x z at = set_here xs i x z at

-- and the others are as before
pub set_other : {X : Type 0} (xs : List X) (i j : ℕ) (x y : X) → j ≢ i → slice_get xs j ≡ Some y → slice_get (set xs i x) j ≡ Some y
set_other [] i j x y differs at = absurd cc
set_other (z ∷ xs) zero zero x y differs at = absurd (differs refl)
set_other (z ∷ xs) zero (suc j) x y differs at = at
set_other (z ∷ xs) (suc i) zero x y differs at = at
set_other (z ∷ xs) (suc i) (suc j) x y differs at = set_other xs i j x y (λ e. differs (ap suc e)) at

-- what both elements have in common stays in the list
pub set_mapped : {X Y : Type 0} (f : X → Y) (xs : List X) (i : ℕ) (x z : X) → slice_get xs i ≡ Some z → f x ≡ f z → map f (set xs i x) ≡ map f xs
set_mapped f [] i x z at e = absurd cc
set_mapped f (y ∷ xs) zero x z at e =
    let same : y ≡ z = cc in
    ap (λ v. v ∷ map f xs) (e ∙ ap f (sym same))
set_mapped f (y ∷ xs) (suc i) x z at e = ap (λ l. f y ∷ l) (set_mapped f xs i x z at e)
