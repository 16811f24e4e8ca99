-- What a loop keeps of a list, one element at a time.
use Rattle.std.proofs.Common.{◌≡◌, ◌<◌, ◌≤◌, ◌⊎◌, inl, inr, ℕ, ◌+◌, zero, suc, Bool, true, false, ◌||◌, cond, List, [], ◌∷◌, ◌++◌, map, filter, find, drop, length, get_or, slice_get, Some, None, refl, sym, ap, ◌∙◌, subst, arith}
use Rattle.std.specs.List.{list_any}
use Rattle.std.proofs.lemmas.Option.{slice_get_within}
use Rattle.std.proofs.lemmas.List.{append_assoc, append-nil}
use Rattle.kmipa_check.proofs.PlaceLemmas.{below_suc}
use Rattle.kmipa_explain.specs.Kept.{kept, one_if, AreNone}

pub drop_at : {X : Type 0} (xs : List X) (i : ℕ) (x : X) → slice_get xs i ≡ Some x → drop i xs ≡ x ∷ drop (suc i) xs
drop_at [] i x at = absurd cc
drop_at (y ∷ xs) zero x at = cc
drop_at (y ∷ xs) (suc i) x at = drop_at xs i x at

pub drop_all : {X : Type 0} (xs : List X) (i : ℕ) → length xs ≤ i → drop i xs ≡ []
drop_all [] zero h = refl
drop_all [] (suc i) h = refl
drop_all (x ∷ xs) zero h = absurd (omega (arith, h))
drop_all (x ∷ xs) (suc i) h = drop_all xs i (omega (arith, h))

-- what stands at a place that is read
pub read_at : {X Y : Type 0} (f : X → Y) (xs : List X) (i : ℕ) (x : X) → i < length xs → slice_get (map f xs) i ≡ Some (f (get_or xs i x))
read_at f [] i x h = absurd (omega (arith, h))
read_at f (y ∷ xs) zero x h = refl
read_at f (y ∷ xs) (suc i) x h = read_at f xs i x (omega (arith, h))

module _ {X Y : Type 0} (test : X → Bool) (read : X → Y) where
  one_more : (x : X) (rest : List X) → map read (filter test (x ∷ rest)) ≡ one_if (read x) (test x) ++ map read (filter test rest)
  one_more x rest = by (test x) refl
    where
      by : (b : Bool) → test x ≡ b → map read (filter test (x ∷ rest)) ≡ one_if (read x) b ++ map read (filter test rest)
      by true e = rw e refl
      by false e = rw e refl

  kept_next : (xs : List X) (place : ℕ) (x : X) → slice_get xs place ≡ Some x → kept test read xs place ≡ one_if (read x) (test x) ++ kept test read xs (place + 1)
  kept_next xs place x at =
      let P : ℕ → Type 0 = λ n. kept test read xs place ≡ one_if (read x) (test x) ++ kept test read xs n in
      let e : suc place ≡ place + 1 = omega arith in
      subst P e (ap (λ (l : List X). map read (filter test l)) (drop_at xs place x at) ∙ one_more x (drop (suc place) xs))

  kept_end : (xs : List X) (place : ℕ) → length xs ≤ place → kept test read xs place ≡ []
  kept_end xs place h = ap (λ (l : List X). map read (filter test l)) (drop_all xs place h)

  -- these were kept up to a place, of all from the first one on
  abbrev pub KeptUpTo : List X → ℕ → ℕ → List Y → Type 0
  KeptUpTo xs first place ys = kept test read xs first ≡ ys ++ kept test read xs place

  pub kept_none : (xs : List X) (first : ℕ) (ys : List Y) → ys ≡ [] → KeptUpTo xs first first ys
  kept_none xs first ys none = ap (λ (l : List Y). l ++ kept test read xs first) (sym none)

  pub kept_more : (xs : List X) (first place : ℕ) (x : X) (ys more : List Y) (b : Bool) → slice_get xs place ≡ Some x → b ≡ test x → more ≡ ys ++ one_if (read x) b
      → KeptUpTo xs first place ys → KeptUpTo xs first (place + 1) more
  kept_more xs first place x ys more b at is grown held =
      held ∙ ap (λ (l : List Y). ys ++ l) (kept_next xs place x at ∙ ap (λ (c : Bool). one_if (read x) c ++ kept test read xs (place + 1)) (sym is))
      ∙ sym (append_assoc ys (one_if (read x) b) (kept test read xs (place + 1)))
      ∙ ap (λ (l : List Y). l ++ kept test read xs (place + 1)) (sym grown)

  pub kept_all : (xs : List X) (first place : ℕ) (ys : List Y) → length xs ≤ place → KeptUpTo xs first place ys → ys ≡ kept test read xs first
  kept_all xs first place ys end held = sym (held ∙ ap (λ (l : List Y). ys ++ l) (kept_end xs place end) ∙ append-nil ys)

-- ---- the first that passes

module _ {X : Type 0} (test : X → Bool) where
  -- none before a place passes
  abbrev pub NoneBelow : List X → ℕ → Type 0
  NoneBelow xs count = (place : ℕ) (x : X) → place < count → slice_get xs place ≡ Some x → test x ≡ false

  pub none_first : (xs : List X) → NoneBelow xs 0
  none_first xs place x below at = absurd (omega (arith, below))

  pub none_more : (xs : List X) (place : ℕ) (x : X) → slice_get xs place ≡ Some x → false ≡ test x → NoneBelow xs place → NoneBelow xs (place + 1)
  none_more xs place x here fails before earlier y below at = by (below_suc earlier place (omega (arith, below)))
    where
      by : (earlier < place) ⊎ (earlier ≡ place) → test y ≡ false
      by (inl lower) = before earlier y lower at
      by (inr same) =
          let P : ℕ → Type 0 = λ n. slice_get xs n ≡ Some y in
          let there = subst P same at in
          let its : x ≡ y = cc in
          ap test (sym its) ∙ sym fails

  pub none_all : (xs : List X) (count : ℕ) → length xs ≤ count → NoneBelow xs count → AreNone test xs
  none_all xs count end before place x at = before place x (omega (arith, end, slice_get_within xs place x at)) at

  find_at : (x : X) (rest : List X) (b : Bool) → test x ≡ b → find test (x ∷ rest) ≡ cond b (Some x) (find test rest)
  find_at x rest true e = rw e refl
  find_at x rest false e = rw e refl

  -- of what stands from a place on, the first that passes is the first that passes from another one on
  abbrev pub SoughtFrom : List X → ℕ → ℕ → Type 0
  SoughtFrom xs first place = find test (drop first xs) ≡ find test (drop place xs)

  pub sought_more : (xs : List X) (first place : ℕ) (x : X) → slice_get xs place ≡ Some x → false ≡ test x → SoughtFrom xs first place → SoughtFrom xs first (place + 1)
  sought_more xs first place x at fails held =
      let P : ℕ → Type 0 = λ n. SoughtFrom xs first n in
      let e : suc place ≡ place + 1 = omega arith in
      subst P e (held ∙ ap (find test) (drop_at xs place x at) ∙ find_at x (drop (suc place) xs) false (sym fails))

  pub sought_found : (xs : List X) (first place : ℕ) (x : X) → slice_get xs place ≡ Some x → true ≡ test x → SoughtFrom xs first place → find test (drop first xs) ≡ Some x
  sought_found xs first place x at passes held = held ∙ ap (find test) (drop_at xs place x at) ∙ find_at x (drop (suc place) xs) true (sym passes)

  pub sought_none : (xs : List X) (first place : ℕ) → length xs ≤ place → SoughtFrom xs first place → find test (drop first xs) ≡ None
  sought_none xs first place end held = held ∙ ap (find test) (drop_all xs place end)

  any_at : (x : X) (rest : List X) (b : Bool) → test x ≡ b → list_any test (x ∷ rest) ≡ (b || list_any test rest)
  any_at x rest true e = rw e refl
  any_at x rest false e = rw e refl

  -- whether one passes is whether one passes from a place on
  abbrev pub AnyFrom : List X → ℕ → Type 0
  AnyFrom xs place = list_any test xs ≡ list_any test (drop place xs)

  pub any_more : (xs : List X) (place : ℕ) (x : X) → slice_get xs place ≡ Some x → false ≡ test x → AnyFrom xs place → AnyFrom xs (place + 1)
  any_more xs place x at fails held =
      let P : ℕ → Type 0 = λ n. AnyFrom xs n in
      let e : suc place ≡ place + 1 = omega arith in
      subst P e (held ∙ ap (list_any test) (drop_at xs place x at) ∙ any_at x (drop (suc place) xs) false (sym fails))

  pub any_found : (xs : List X) (place : ℕ) (x : X) → slice_get xs place ≡ Some x → true ≡ test x → AnyFrom xs place → true ≡ list_any test xs
  any_found xs place x at passes held = sym (held ∙ ap (list_any test) (drop_at xs place x at) ∙ any_at x (drop (suc place) xs) true (sym passes))

  pub any_none : (xs : List X) (place : ℕ) → length xs ≤ place → AnyFrom xs place → false ≡ list_any test xs
  any_none xs place end held = sym (held ∙ ap (list_any test) (drop_all xs place end))
