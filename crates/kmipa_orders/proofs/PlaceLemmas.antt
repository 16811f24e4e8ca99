-- Lists of distinct elements, and pairs of them.
use Rattle.std.proofs.Common.{◌≡◌, ◌<◌, ◌⊎◌, inl, inr, ℕ, zero, suc, List, [], ◌∷◌, ◌++◌, length, get_or, Some, slice_get, Contains, refl, ap, subst, arith}
use Rattle.std.specs.Prelude.{AllPairs, IsPermutation}
use Rattle.std.proofs.lemmas.List.{length-append}
use Rattle.std.proofs.lemmas.List.Elements.{Contains-append_cases, Contains-append_left, Contains-append_right}
use Rattle.std.proofs.lemmas.List.Sorted.{Contains-permutation, length_permutation}
use Rattle.std.proofs.lemmas.Option.{get_or_from_slice_get, slice_get_within, slice_get-get_or}
use Rattle.kmipa_check.proofs.PlaceLemmas.{contains_at, at_contains, pushed_at}
use Rattle.kmipa_orders.proofs.PermutationLemmas.{IsOnce, at_most}

pub once_at : {X : Type 0} (xs : List X) → ((i j : ℕ) (x : X) → i < j → slice_get xs i ≡ Some x → slice_get xs j ≡ Some x → ⊥) → IsOnce xs
once_at [] h = tt
once_at (x ∷ xs) h = ((λ c. let p = at_contains xs x c in h 0 (suc p.0) x (omega arith) refl p.1), once_at xs (λ i j y below a b. h (suc i) (suc j) y (omega (arith, below)) a b))

-- an element stands at one place
pub one_place : {X : Type 0} (xs : List X) (i j : ℕ) (x : X) → IsOnce xs → slice_get xs i ≡ Some x → slice_get xs j ≡ Some x → i ≡ j
one_place [] i j x once a b = absurd cc
one_place (y ∷ xs) zero zero x once a b = refl
one_place {X = X} (y ∷ xs) zero (suc j) x once a b = let e : x ≡ y = cc in absurd (once.0 (subst (λ (v : X). Contains xs v) e (contains_at xs j x b)))
one_place {X = X} (y ∷ xs) (suc i) zero x once a b = let e : x ≡ y = cc in absurd (once.0 (subst (λ (v : X). Contains xs v) e (contains_at xs i x a)))
one_place (y ∷ xs) (suc i) (suc j) x once a b = ap suc (one_place xs i j x once.1 a b)

pub one_cases : {X : Type 0} (x y : X) (xs : List X) → Contains (x ∷ xs) y → (x ≡ y) ⊎ Contains xs y
one_cases x y xs (zero, below, is) = inl is
one_cases x y xs (suc k, below, is) = inr (k, omega (arith, below), is)

pub has_head : {X : Type 0} (x : X) (xs : List X) → Contains (x ∷ xs) x
has_head x xs = contains_at (x ∷ xs) 0 x refl

-- an element of a list without repetition stands once in each order
pub fresh : {X : Type 0} (calls xs rest : List X) (c : X) → IsOnce calls → IsPermutation calls (xs ++ c ∷ rest) → Contains xs c → ⊥
fresh {X = X} calls xs rest c once p has =
    omega (arith, at_most calls (xs ++ rest) once inside, length_permutation calls (xs ++ c ∷ rest) p, length-append xs rest, length-append xs (c ∷ rest))
  where
    inside : (y : X) → Contains calls y → Contains (xs ++ rest) y
    inside y h = elim (Contains-append_cases xs (c ∷ rest) y (Contains-permutation calls (xs ++ c ∷ rest) y p h)) [
      | inl l ↦ Contains-append_left xs rest y l
      | inr r ↦ elim (one_cases c y rest r) [
        | inl e ↦ Contains-append_left xs rest y (subst (λ (v : X). Contains xs v) e has)
        | inr t ↦ Contains-append_right xs rest y t
      ]
    ]

-- what holds of each two holds of one and each after it
pub pairs_behind : {X : Type 0} (R : X → X → Type 0) (xs rest : List X) (c d : X) → AllPairs R (xs ++ c ∷ rest) → Contains rest d → R c d
pairs_behind {X = X} R [] rest c d h has =
    subst (λ (v : X). R c v) has.2 (h 0 (suc has.0) d (omega arith) (omega (arith, has.1)))
pairs_behind R (x ∷ xs) rest c d h has =
    pairs_behind R xs rest c d (λ i j e below within. h (suc i) (suc j) e (omega (arith, below)) (omega (arith, within))) has

pub pairs_pushed : {X : Type 0} (R : X → X → Type 0) (xs : List X) (c : X) → AllPairs R xs → ((x : X) → Contains xs x → R x c) → AllPairs R (xs ++ c ∷ [])
pairs_pushed {X = X} R xs c h each i j d below within =
    let a = slice_get-get_or (xs ++ c ∷ []) i d (omega (arith, below, within)) in
    let b = slice_get-get_or (xs ++ c ∷ []) j d within in
    by (get_or (xs ++ c ∷ []) i d) (get_or (xs ++ c ∷ []) j d) (pushed_at xs c i (get_or (xs ++ c ∷ []) i d) a) (pushed_at xs c j (get_or (xs ++ c ∷ []) j d) b)
  where
    by : (x y : X) → (slice_get xs i ≡ Some x) ⊎ ((i ≡ length xs) × (c ≡ x)) → (slice_get xs j ≡ Some y) ⊎ ((j ≡ length xs) × (c ≡ y)) → R x y
    by x y (inl p) (inl q) =
        let u = h i j d below (slice_get_within xs j y q) in
        subst (λ (v : X). R x v) (get_or_from_slice_get xs j y d q) (subst (λ (v : X). R v (get_or xs j d)) (get_or_from_slice_get xs i x d p) u)
    by x y (inl p) (inr q) = subst (λ (v : X). R x v) q.1 (each x (contains_at xs i x p))
    by x y (inr p) (inl q) = absurd (omega (arith, below, p.0, slice_get_within xs j y q))
    by x y (inr p) (inr q) = absurd (omega (arith, below, p.0, q.0))
