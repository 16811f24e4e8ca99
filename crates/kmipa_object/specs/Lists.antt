-- Lists with one element changed.
use Rattle.std.specs.Prelude.{ℕ, zero, suc, List, [], ◌∷◌}

-- the element at a place is changed, if there is one
abbrev pub updated : {X : Type 0} → List X → ℕ → (X → X) → List X
updated [] place f = []
updated (x ∷ xs) zero f = f x ∷ xs
updated (x ∷ xs) (suc place) f = x ∷ updated xs place f
