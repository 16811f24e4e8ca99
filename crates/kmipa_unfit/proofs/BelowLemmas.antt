-- What holds at each place below one, and of each element below it.
use Rattle.std.proofs.Common.{◌≡◌, ◌≢◌, ◌<◌, ◌≤◌, ◌⊎◌, inl, inr, ℕ, ◌+◌, List, [], ◌∷◌, length, Some, slice_get, refl, sym, subst, arith, add-one}
use Rattle.kmipa_check.proofs.PlaceLemmas.{below_suc, at_within}

abbrev pub Below : (ℕ → Type 0) → ℕ → Type 0
Below P count = (place : ℕ) → place < count → P place

pub below_none : (P : ℕ → Type 0) → Below P 0
below_none P = λ place below. absurd (omega (arith, below))

pub below_more : (P : ℕ → Type 0) (count : ℕ) → P count → Below P count → Below P (count + 1)
below_more P count here h =
    let Q : ℕ → Type 0 = λ n. Below P n in
    subst Q (sym (add-one count)) (λ place below. by place (below_suc place count below))
  where
    by : (place : ℕ) → (place < count) ⊎ (place ≡ count) → P place
    by place (inl l) = h place l
    by place (inr e) = subst P (sym e) here

-- each of the first elements
abbrev pub EachBelow : {X : Type 0} → (X → Type 0) → List X → ℕ → Type 0
EachBelow P xs count = Below (λ place. (x : _) → slice_get xs place ≡ Some x → P x) count

pub each_none : {X : Type 0} (P : X → Type 0) (xs : List X) → EachBelow P xs 0
each_none P xs = below_none (λ place. (x : _) → slice_get xs place ≡ Some x → P x)

pub each_more : {X : Type 0} (P : X → Type 0) (xs : List X) (count : ℕ) (x : X) → slice_get xs count ≡ Some x → P x → EachBelow P xs count → EachBelow P xs (count + 1)
each_more P xs count x there holds h =
    below_more (λ place. (y : _) → slice_get xs place ≡ Some y → P y) count (λ y at. let same : x ≡ y = cc in subst P same holds) h

pub each_all : {X : Type 0} (P : X → Type 0) (xs : List X) (count : ℕ) → length xs ≤ count → EachBelow P xs count → (place : ℕ) (x : X) → slice_get xs place ≡ Some x → P x
each_all P xs count past h place x there = h place (omega (arith, at_within xs place x there, past)) x there

-- a list that isn't empty has a length
pub has_length : {X : Type 0} (xs : List X) → xs ≢ [] → 0 < length xs
has_length [] some = absurd (some refl)
has_length (x ∷ xs) some = omega (arith)
