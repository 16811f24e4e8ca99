-- An order of what stands once.
use Rattle.std.proofs.Common.{◌≡◌, ◌<◌, ℕ, zero, suc, List, [], ◌∷◌, ◌++◌, take, drop, Some, slice_get, ap, subst, arith}
use Rattle.std.specs.Prelude.{IsPermutation}
use Rattle.kmipa_check.proofs.PlaceLemmas.{contains_at}
use Rattle.kmipa_orders.proofs.PermutationLemmas.{IsOnce}
use Rattle.kmipa_orders.proofs.PlaceLemmas.{once_at, fresh}

-- a list, cut at an element
pub cut : {X : Type 0} (xs : List X) (j : ℕ) (x : X) → slice_get xs j ≡ Some x → xs ≡ take j xs ++ x ∷ drop (suc j) xs
cut [] j x at = absurd cc
cut (y ∷ xs) zero x at = let e : y ≡ x = cc in ap (λ (h : _). h ∷ xs) e
cut (y ∷ xs) (suc j) x at = ap (λ (l : List _). y ∷ l) (cut xs j x at)

ahead : {X : Type 0} (xs : List X) (i j : ℕ) (x : X) → i < j → slice_get xs i ≡ Some x → slice_get (take j xs) i ≡ Some x
ahead [] i j x below at = absurd cc
ahead (y ∷ xs) i zero x below at = absurd (omega (arith, below))
ahead (y ∷ xs) zero (suc j) x below at = at
ahead (y ∷ xs) (suc i) (suc j) x below at = ahead xs i j x (omega (arith, below)) at

-- an order of what stands once has each once
pub once_permuted : {X : Type 0} (xs ys : List X) → IsOnce xs → IsPermutation xs ys → IsOnce ys
once_permuted {X = X} xs ys once p = once_at ys (λ i j x below a b.
    let P : List X → Type 0 = λ zs. IsPermutation xs zs in
    fresh xs (take j ys) (drop (suc j) ys) x once (subst P (cut ys j x b) p) (contains_at (take j ys) i x (ahead ys i j x below a)))
