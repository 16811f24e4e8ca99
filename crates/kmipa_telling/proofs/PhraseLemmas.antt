-- Of how calls are named.
use Rattle.std.proofs.Common.{◌≡◌, ◌∙◌, ap, refl, List, [], ◌∷◌, ◌++◌, ℕ, ℤ, codes, take, length}
use Rattle.std.specs.List.{flat_map}
use Rattle.kmipa_telling.specs.Phrases.{calls_text, more_text, numbered}

-- calls that are some are told by their numbers
pub calls_told : (numbers : List ℤ) (named more text : List ℕ) → (numbers ≡ [] → ⊥) → named ≡ flat_map numbered (take 20 numbers) → more ≡ more_text (length numbers)
    → text ≡ codes "calls" ++ named ++ more → text ≡ calls_text numbers
calls_told [] named more text some en em et = absurd (some refl)
calls_told (n ∷ numbers) named more text some en em et =
    et ∙ ap (λ (t : List ℕ). codes "calls" ++ t ++ more) en ∙ ap (λ (t : List ℕ). codes "calls" ++ flat_map numbered (take 20 (n ∷ numbers)) ++ t) em
