-- A list without repetition, all of whose elements another list has.
use Rattle.std.proofs.Common.{◌≡◌, ◌≢◌, ◌≤◌, ◌⊎◌, inl, inr, zero, suc, List, [], ◌∷◌, map, length, Contains, sym, ap, subst, arith}
use Rattle.std.specs.Prelude.{IsPermutation, remove, AllPairs}
use Rattle.std.proofs.lemmas.List.Sorted.{IsPermutation-refl, IsPermutation-sym, IsPermutation-trans, IsPermutation-cons, IsPermutation-remove, Contains-permutation, length_permutation}
use Rattle.std.proofs.lemmas.List.Elements.{Contains-get_or, Contains-append_right}

-- no element stands twice
abbrev pub IsOnce : {X : Type 0} → List X → Type 0
IsOnce [] = Unit {0}
IsOnce (x ∷ xs) = ¬ (Contains xs x) × IsOnce xs

contains_head : {X : Type 0} (x : X) (xs : List X) → Contains (x ∷ xs) x
contains_head x xs = Contains-get_or (x ∷ xs) 0 x (omega arith)

contains_tail : {X : Type 0} (x y : X) (xs : List X) → Contains xs y → Contains (x ∷ xs) y
contains_tail x y xs h = Contains-append_right (x ∷ []) xs y h

contains_rest : {X : Type 0} (x y : X) (xs : List X) → Contains (x ∷ xs) y → (x ≡ y) ⊎ Contains xs y
contains_rest x y xs (zero, below, is) = inl is
contains_rest x y xs (suc k, below, is) = inr (k, omega (arith, below), is)

-- the first element goes out of both lists
record Without {X : Type 0} (x : X) (xs ys : List X) : Type 0 where
  rest : List X
  moved : IsPermutation ys (x ∷ rest)
  inside : (y : X) → Contains xs y → Contains rest y

without : {X : Type 0} (x : X) (xs ys : List X) → ¬ (Contains xs x) → ((y : X) → Contains (x ∷ xs) y → Contains ys y) → Without x xs ys
without {X = X} x xs ys fresh inside =
    let at = inside x (contains_head x xs) in
    let moved = IsPermutation-remove ys at.0 x at.1 (sym at.2) in
    record {
      rest = remove ys at.0;
      moved = moved;
      inside = λ y h. other (remove ys at.0) y h (contains_rest x y (remove ys at.0) (Contains-permutation ys (x ∷ remove ys at.0) y moved (inside y (contains_tail x y xs h))));
    }
  where
    other : (rest : List X) (y : X) → Contains xs y → (x ≡ y) ⊎ Contains rest y → Contains rest y
    other rest y h (inl e) = absurd (fresh (subst (Contains xs) (sym e) h))
    other rest y h (inr r) = r

pub at_most : {X : Type 0} (xs ys : List X) → IsOnce xs → ((y : X) → Contains xs y → Contains ys y) → length xs ≤ length ys
at_most [] ys once inside = omega arith
at_most (x ∷ xs) ys once inside =
    let w = without x xs ys once.0 inside in
    omega (arith, at_most xs w.rest once.1 w.inside, length_permutation ys (x ∷ w.rest) w.moved)

pub permuted : {X : Type 0} (xs ys : List X) → IsOnce xs → ((y : X) → Contains xs y → Contains ys y) → length ys ≤ length xs → IsPermutation xs ys
permuted [] [] once inside few = IsPermutation-refl []
permuted [] (y ∷ ys) once inside few = absurd (omega (arith, few))
permuted (x ∷ xs) ys once inside few =
    let w = without x xs ys once.0 inside in
    IsPermutation-trans (x ∷ xs) (x ∷ w.rest) ys
    (IsPermutation-cons x xs w.rest (permuted xs w.rest once.1 w.inside (omega (arith, few, length_permutation ys (x ∷ w.rest) w.moved))))
    (IsPermutation-sym ys (x ∷ w.rest) w.moved)

-- keys that stand once come of elements that do
pub contains_mapped : {X Y : Type 0} (f : X → Y) (xs : List X) (x : X) → Contains xs x → Contains (map f xs) (f x)
contains_mapped f (y ∷ xs) x (zero, below, is) = (zero, omega arith, ap f is)
contains_mapped f (y ∷ xs) x (suc k, below, is) = contains_tail (f y) (f x) (map f xs) (contains_mapped f xs x (k, omega (arith, below), is))
contains_mapped f [] x (k, below, is) = absurd (omega (arith, below))

pub once_mapped : {X Y : Type 0} (f : X → Y) (xs : List X) → IsOnce (map f xs) → IsOnce xs
once_mapped f [] once = tt
once_mapped f (x ∷ xs) once = ((λ h. once.0 (contains_mapped f xs x h)), once_mapped f xs once.1)

pub once_pairs : {X : Type 0} (xs : List X) → AllPairs (λ x y. x ≢ y) xs → IsOnce xs
once_pairs [] h = tt
once_pairs (x ∷ xs) h = ((λ c. h 0 (suc c.0) x (omega arith) (omega (arith, c.1)) (sym c.2)), once_pairs xs (λ i j d below within. h (suc i) (suc j) d (omega (arith, below)) (omega (arith, within))))
