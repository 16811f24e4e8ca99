-- Elements of longer lists, and of lists with one element changed.
use Rattle.std.proofs.Common.{◌≡◌, ◌≢◌, ◌<◌, ◌≤◌, ◌⊎◌, ℕ, zero, suc, List, [], ◌∷◌, ◌++◌, length, map, get_or, set, slice_get, Some, None, option_map, refl, ap, ◌∙◌, sym, inl, inr, arith}
use Rattle.kmipa_object.specs.Lists.{updated}

module _ {X : Type 0} where
  pub get-append_old : (xs : List X) (y : X) (k : ℕ) (x : X) → slice_get xs k ≡ Some x → slice_get (xs ++ y ∷ []) k ≡ Some x
  get-append_old [] y k x e = cc
  get-append_old (z ∷ xs) y zero x e = e
  get-append_old (z ∷ xs) y (suc k) x e = get-append_old xs y k x e

  pub get-append_last : (xs : List X) (y : X) → slice_get (xs ++ y ∷ []) (length xs) ≡ Some y
  get-append_last [] y = refl
  get-append_last (z ∷ xs) y = get-append_last xs y

  pub get-append_cases : (xs : List X) (y : X) (k : ℕ) (x : X) → slice_get (xs ++ y ∷ []) k ≡ Some x → (slice_get xs k ≡ Some x) ⊎ ((k ≡ length xs) × (x ≡ y))
  get-append_cases [] y zero x e = inr (refl, cc)
  get-append_cases [] y (suc k) x e = inl e
  get-append_cases (z ∷ xs) y zero x e = inl e
  get-append_cases (z ∷ xs) y (suc k) x e = elim (get-append_cases xs y k x e) [ inl a ↦ inl a | inr b ↦ inr (ap suc b.0, b.1) ]

  -- an element that is there has a place below the length
  pub get_below : (xs : List X) (k : ℕ) (x : X) → slice_get xs k ≡ Some x → k < length xs
  get_below [] k x e = cc
  get_below (z ∷ xs) zero x e = omega arith
  get_below (z ∷ xs) (suc k) x e = let h : k < length xs = get_below xs k x e in omega arith

  -- and at a place below the length there is one
  pub below_get : (xs : List X) (k : ℕ) → k < length xs → (x : X) × (slice_get xs k ≡ Some x)
  below_get [] k h = absurd (omega arith)
  below_get (z ∷ xs) zero h = (z, refl)
  below_get (z ∷ xs) (suc k) h = below_get xs k (omega arith)

  pub get-updated_same : (xs : List X) (n : ℕ) (f : X → X) (x : X) → slice_get xs n ≡ Some x → slice_get (updated xs n f) n ≡ Some (f x)
  get-updated_same [] n f x e = cc
  get-updated_same (z ∷ xs) zero f x e = let q : z ≡ x = cc in ap (λ (y : X). Some (f y)) q
  get-updated_same (z ∷ xs) (suc n) f x e = get-updated_same xs n f x e

  pub get-updated_other : (xs : List X) (n k : ℕ) (f : X → X) → k ≢ n → slice_get (updated xs n f) k ≡ slice_get xs k
  get-updated_other [] n k f h = refl
  get-updated_other (z ∷ xs) zero zero f h = absurd (h refl)
  get-updated_other (z ∷ xs) zero (suc k) f h = refl
  get-updated_other (z ∷ xs) (suc n) zero f h = refl
  get-updated_other (z ∷ xs) (suc n) (suc k) f h = get-updated_other xs n k f (λ e. h (ap suc e))

  pub length-updated : (xs : List X) (n : ℕ) (f : X → X) → length (updated xs n f) ≡ length xs
  length-updated [] n f = refl
  length-updated (z ∷ xs) zero f = refl
  length-updated (z ∷ xs) (suc n) f = ap suc (length-updated xs n f)

  -- the last element changed
  pub updated-last : (xs : List X) (x : X) (f : X → X) → updated (xs ++ x ∷ []) (length xs) f ≡ xs ++ f x ∷ []
  updated-last [] x f = refl
  updated-last (z ∷ xs) x f = ap (λ ys. z ∷ ys) (updated-last xs x f)

  -- a change that leaves the element as it is
  pub updated-same : (xs : List X) (n : ℕ) (f : X → X) → ((x : X) → slice_get xs n ≡ Some x → f x ≡ x) → updated xs n f ≡ xs
  updated-same [] n f h = refl
  updated-same (z ∷ xs) zero f h = ap (λ (y : X). y ∷ xs) (h z refl)
  updated-same (z ∷ xs) (suc n) f h = ap (λ ys. z ∷ ys) (updated-same xs n f h)

  -- two changes of one element
  pub updated-twice : (xs : List X) (n : ℕ) (f g : X → X) → updated (updated xs n f) n g ≡ updated xs n (λ x. g (f x))
  updated-twice [] n f g = refl
  updated-twice (z ∷ xs) zero f g = refl
  updated-twice (z ∷ xs) (suc n) f g = ap (λ ys. z ∷ ys) (updated-twice xs n f g)

module _ {X Y : Type 0} where
  pub get-map : (f : X → Y) (xs : List X) (n : ℕ) → slice_get (map f xs) n ≡ option_map f (slice_get xs n)
  get-map f [] n = refl
  get-map f (x ∷ xs) zero = refl
  get-map f (x ∷ xs) (suc n) = get-map f xs n

  -- a change seen through a function
  pub map-updated : (f : X → Y) (g : X → X) (h : Y → Y) (xs : List X) (n : ℕ) → ((x : X) → f (g x) ≡ h (f x)) → map f (updated xs n g) ≡ updated (map f xs) n h
  map-updated f g h [] n e = refl
  map-updated f g h (x ∷ xs) zero e = ap (λ y. y ∷ map f xs) (e x)
  map-updated f g h (x ∷ xs) (suc n) e = ap (λ ys. f x ∷ ys) (map-updated f g h xs n e)

  -- a change that the function does not show
  pub map-updated_hidden : (f : X → Y) (g : X → X) (xs : List X) (n : ℕ) → ((x : X) → f (g x) ≡ f x) → map f (updated xs n g) ≡ map f xs
  map-updated_hidden f g [] n e = refl
  map-updated_hidden f g (x ∷ xs) zero e = ap (λ y. y ∷ map f xs) (e x)
  map-updated_hidden f g (x ∷ xs) (suc n) e = ap (λ ys. f x ∷ ys) (map-updated_hidden f g xs n e)

  pub map-push : (f : X → Y) (xs : List X) (x : X) → map f (xs ++ x ∷ []) ≡ map f xs ++ f x ∷ []
  map-push f [] x = refl
  map-push f (z ∷ xs) x = ap (λ ys. f z ∷ ys) (map-push f xs x)

-- elements as an index reads and writes them
module _ {X : Type 0} where
  pub get-at : (xs : List X) (n : ℕ) (x : X) → n < length xs → x ≡ get_or xs n x → slice_get xs n ≡ Some x
  get-at [] n x h e = absurd (omega arith)
  get-at (z ∷ xs) zero x h e = ap Some (sym e)
  get-at (z ∷ xs) (suc n) x h e = get-at xs n x (omega arith) e

  pub map-set : {Y : Type 0} (f : X → Y) (g : Y → Y) (xs : List X) (n : ℕ) (x w : X) → x ≡ get_or xs n x → f w ≡ g (f x) → map f (set xs n w) ≡ updated (map f xs) n g
  map-set f g [] n x w e h = refl
  map-set f g (z ∷ xs) zero x w e h = ap (λ y. y ∷ map f xs) (h ∙ ap (λ (u : X). g (f u)) e)
  map-set f g (z ∷ xs) (suc n) x w e h = ap (λ ys. f z ∷ ys) (map-set f g xs n x w e h)

  pub get_past : (xs : List X) (n : ℕ) → length xs ≤ n → slice_get xs n ≡ None
  get_past [] n h = refl
  get_past (z ∷ xs) zero h = absurd (omega arith)
  get_past (z ∷ xs) (suc n) h = get_past xs n (omega arith)

  -- where there is no element nothing changes
  pub updated-none : (xs : List X) (n : ℕ) (f : X → X) → slice_get xs n ≡ None → updated xs n f ≡ xs
  updated-none [] n f e = refl
  updated-none (z ∷ xs) zero f e = cc
  updated-none (z ∷ xs) (suc n) f e = ap (λ ys. z ∷ ys) (updated-none xs n f e)
