-- The first places of numbers, one element more.
use Rattle.std.proofs.Common.{◌≡◌, ◌≢◌, ◌<◌, ◌≤◌, ◌⊎◌, inl, inr, ℕ, suc, ◌+◌, ℤ, Bool, true, false, List, length, Option, Some, None, slice_get, get_or, map, refl, sym, subst, arith, add-one}
use Rattle.std.specs.Ordering.{int_eq}
use Rattle.std.proofs.lemmas.Bool.Decides.{Decides-int_eq}
use Rattle.kmipa_check.specs.declared.numbers.FirstPlaces.{FirstPlaces}
use Rattle.kmipa_check.specs.Numbers.{place_in, StandsFirst, IndexesBelow, Indexes, or_else, Noted, NotedIfAny}
use Rattle.std.proofs.lemmas.List.{length-map}
use Rattle.std.proofs.lemmas.Option.{slice_get_within}
use Rattle.kmipa_check.proofs.PlaceLemmas.{below_suc, mapped_at}

module _ (numbers : List (Option ℤ)) (k : ℕ) (number : ℤ) where
  -- another number, or none, stands at the next place
  stays : (v : Option ℕ) → (slice_get numbers k ≡ Some (Some number) → ⊥) → StandsFirst numbers k number v → StandsFirst numbers (suc k) number v
  stays None other h = λ place below at. by place at (below_suc place k below)
    where
      by : (place : ℕ) → slice_get numbers place ≡ Some (Some number) → (place < k) ⊎ (place ≡ k) → ⊥
      by place at (inl b) = h place b at
      by place at (inr e) = other (subst (λ (p : ℕ). slice_get numbers p ≡ Some (Some number)) e at)
  stays (Some place) other h = (omega (arith, h.0), h.1)

  -- the number itself does
  gains : (v : Option ℕ) → slice_get numbers k ≡ Some (Some number) → StandsFirst numbers k number v → StandsFirst numbers (suc k) number (or_else v k)
  gains None at h = (omega arith, record { there = at; first = h })
  gains (Some place) at h = (omega (arith, h.0), h.1)

index_suc : (numbers : List (Option ℤ)) (k : ℕ) (old new : FirstPlaces) (n : ℤ) → slice_get numbers k ≡ Some (Some n) → Noted old new n k → IndexesBelow numbers k old
    → (number : ℤ) (b : Bool) → int_eq n number ≡ b → StandsFirst numbers (suc k) number (place_in new number)
index_suc numbers k old new n at noted h number true e =
    let same : n ≡ number = (Decides-int_eq n number).0 e in
    let P : ℤ → Type 0 = λ z. StandsFirst numbers (suc k) z (place_in new z) in
    let Q : Option ℕ → Type 0 = λ v. StandsFirst numbers (suc k) n v in
    subst P same (subst Q (sym noted.here) (gains numbers k n (place_in old n) at (h n)))
index_suc numbers k old new n at noted h number false e =
    let Q : Option ℕ → Type 0 = λ v. StandsFirst numbers (suc k) number v in
    let differs : n ≢ number = λ same. absurd (let yes = (Decides-int_eq n number).1 same in cc) in
    subst Q (sym (noted.others number (λ same. differs (sym same)))) (stays numbers k number (place_in old number) (λ other. differs cc) (h number))

-- one element more
index_next : (numbers : List (Option ℤ)) (k : ℕ) (old new : FirstPlaces) (v : Option ℤ) → slice_get numbers k ≡ Some v → NotedIfAny old new v k → IndexesBelow numbers k old
    → IndexesBelow numbers (suc k) new
index_next numbers k old new None at same h = λ number.
    let Q : Option ℕ → Type 0 = λ v. StandsFirst numbers (suc k) number v in
    subst Q (sym (same number)) (stays numbers k number (place_in old number) (λ e. absurd cc) (h number))
index_next numbers k old new (Some n) at noted h = λ number. index_suc numbers k old new n at noted h number (int_eq n number) refl

pub index_more : {T : Type 0} (number_in : T → Option ℤ) (items : List T) (k : ℕ) (x : T) (old new : FirstPlaces) → k < length items → x ≡ get_or items k x
    → NotedIfAny old new (number_in x) k → IndexesBelow (map number_in items) k old → IndexesBelow (map number_in items) (k + 1) new
index_more number_in items k x old new below is noted h =
    let P : ℕ → Type 0 = λ j. IndexesBelow (map number_in items) j new in
    subst P (sym (add-one k)) (index_next (map number_in items) k old new (number_in x) (mapped_at number_in items k x below is) noted h)

all_within : (numbers : List (Option ℤ)) (k : ℕ) (number : ℤ) (v : Option ℕ) → length numbers ≤ k → StandsFirst numbers k number v → StandsFirst numbers (length numbers) number v
all_within numbers k number None b h = λ place below at. h place (omega (arith, b, below)) at
all_within numbers k number (Some place) b h = (slice_get_within numbers place (Some number) h.1.there, h.1)

pub index_all : {T : Type 0} (number_in : T → Option ℤ) (items : List T) (k : ℕ) (f : FirstPlaces) → length items ≤ k
    → IndexesBelow (map number_in items) k f → Indexes (map number_in items) f
index_all number_in items k f b h = λ number.
    all_within (map number_in items) k number (place_in f number) (omega (arith, b, length-map items number_in)) (h number)
