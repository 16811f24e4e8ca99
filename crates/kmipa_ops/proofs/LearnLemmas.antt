-- What is known after bytes were told.
use Rattle.std.proofs.Common.{◌≡◌, ◌⊎◌, ℕ, zero, suc, List, [], ◌∷◌, slice_get, option_map, Option, Some, None, refl, ap, inl, inr}
use Rattle.kmipa_store.specs.Ledger.{Known, told}

pub known_at : (o : Option Known) (bytes : List ℕ) → option_map (λ (k : Known). k.bytes) o ≡ Some (Some bytes) → (k : Known) × (o ≡ Some k) × (k.bytes ≡ Some bytes)
known_at None bytes e = let bad : ⊥ = cc in absurd bad
known_at (Some k) bytes e = (k, refl, cc)

pub told_cases : (ss : List Known) (n : ℕ) (b : List ℕ) (i : ℕ) (k : Known) → slice_get (told ss n b) i ≡ Some k → (slice_get ss i ≡ Some k) ⊎ (Some b ≡ k.bytes)
told_cases [] n b i k e = inl e
told_cases (x ∷ ss) zero b zero k e = let q : record { rule = x.rule; bytes = Some b } ≡ k = cc in inr (ap (λ (y : Known). y.bytes) q)
told_cases (x ∷ ss) zero b (suc i) k e = inl e
told_cases (x ∷ ss) (suc n) b zero k e = inl e
told_cases (x ∷ ss) (suc n) b (suc i) k e = told_cases ss n b i k e
