-- Lists without repetition.
use Rattle.std.proofs.Common.{◌≢◌, suc, List, [], ◌∷◌, Contains, sym, arith}
use Rattle.std.specs.Prelude.{AllPairs}

-- no element stands twice
abbrev pub IsOnce : {X : Type 0} → List X → Type 0
IsOnce [] = Unit {0}
IsOnce (x ∷ xs) = ¬ (Contains xs x) × IsOnce xs

pub once_pairs : {X : Type 0} (xs : List X) → AllPairs (λ x y. x ≢ y) xs → IsOnce xs
once_pairs [] h = tt
once_pairs (x ∷ xs) h = ((λ c. h 0 (suc c.0) x (omega arith) (omega (arith, c.1)) (sym c.2)), once_pairs xs (λ i j d below within. h (suc i) (suc j) d (omega (arith, below)) (omega (arith, within))))
