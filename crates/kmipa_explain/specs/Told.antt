-- What is told of the elements of a list, one after the other.
use Rattle.std.specs.Prelude.{◌≡◌, ◌⊎◌, ℕ, ◌+◌, List, [], ◌∷◌, ◌++◌}

-- Of each element, the first of which stands at this place, either something is told, or it passes, and nothing is told of it. What is told stands
-- in the order of the elements.
abbrev pub AreTold : {X Y : Type 0} → (ℕ → X → Y → Type 0) → (ℕ → X → Type 0) → ℕ → List X → List Y → Type 0
AreTold Tells Passes place [] told = told ≡ []
AreTold {X} {Y} Tells Passes place (x ∷ xs) told =
    ((first : Y) × (rest : List Y) × (told ≡ first ∷ rest) × Tells place x first × AreTold Tells Passes (place + 1) xs rest)
    ⊎ (Passes place x × AreTold Tells Passes (place + 1) xs told)

-- of one element something was told behind what was told before, or it passed. Not promised.
abbrev pub IsNoted : {Y : Type 0} → (Y → Type 0) → Type 0 → List Y → List Y → Type 0
IsNoted {Y} Tells Passes before after = ((last : Y) × (after ≡ before ++ last ∷ []) × Tells last) ⊎ (Passes × (after ≡ before))
