-- Tests of the elements of a list, seen through a function or from a place on.
use Rattle.std.proofs.Common.{◌≡◌, ◌∙◌, ◌||◌, ◌&&◌, ◌+◌, ◌≤◌, ℕ, zero, suc, Bool, true, false, List, [], ◌∷◌, length, map, drop, slice_get, Some, refl, ap, sym, arith}
use Rattle.std.specs.List.{list_any}

pub any_map : {X Y : Type 0} (p : Y → Bool) (f : X → Y) (xs : List X) → list_any p (map f xs) ≡ list_any (λ (x : X). p (f x)) xs
any_map p f [] = refl
any_map p f (x ∷ xs) = ap (λ (b : Bool). p (f x) || b) (any_map p f xs)

pub any_step : {X : Type 0} (p : X → Bool) (xs : List X) (i : ℕ) (x : X) → slice_get xs i ≡ Some x → list_any p (drop i xs) ≡ (p x || list_any p (drop (i + 1) xs))
any_step p [] i x e = cc
any_step {X} p (y ∷ xs) zero x e = let q : y ≡ x = cc in ap (λ (z : X). p z || list_any p xs) q
any_step {X} p (y ∷ xs) (suc i) x e =
    let more : suc i + 1 ≡ suc (i + 1) = omega arith in
    any_step p xs i x e ∙ ap (λ (n : ℕ). p x || list_any p (drop n (y ∷ xs))) (sym more)

pub any_past : {X : Type 0} (p : X → Bool) (xs : List X) (i : ℕ) → length xs ≤ i → list_any p (drop i xs) ≡ false
any_past p [] zero h = refl
any_past p [] (suc i) h = refl
any_past p (x ∷ xs) zero h = absurd (omega arith)
any_past p (x ∷ xs) (suc i) h = any_past p xs i (omega arith)

-- one more element that fails the test, or one that passes it
pub any_on : {X : Type 0} (p : X → Bool) (xs : List X) (i : ℕ) (x : X) → slice_get xs i ≡ Some x → p x ≡ false → list_any p (drop i xs) ≡ list_any p (drop (i + 1) xs)
any_on p xs i x e h = any_step p xs i x e ∙ ap (λ (b : Bool). b || list_any p (drop (i + 1) xs)) h

pub any_here : {X : Type 0} (p : X → Bool) (xs : List X) (i : ℕ) (x : X) → slice_get xs i ≡ Some x → p x ≡ true → list_any p (drop i xs) ≡ true
any_here p xs i x e h = any_step p xs i x e ∙ ap (λ (b : Bool). b || list_any p (drop (i + 1) xs)) h

pub length-map : {X Y : Type 0} (f : X → Y) (xs : List X) → length (map f xs) ≡ length xs
length-map f [] = refl
length-map f (x ∷ xs) = ap suc (length-map f xs)

pub any_same : {X : Type 0} (p q : X → Bool) → ((x : X) → p x ≡ q x) → (xs : List X) → list_any p xs ≡ list_any q xs
any_same p q e [] = refl
any_same p q e (x ∷ xs) = ap (λ (b : Bool). b || list_any p xs) (e x) ∙ ap (λ (b : Bool). q x || b) (any_same p q e xs)

-- ---- two lists

any_false : {X : Type 0} (xs : List X) → list_any (λ (x : X). false) xs ≡ false
any_false [] = refl
any_false (x ∷ xs) = any_false xs

or_mix : (a b c d : Bool) → ((a || b) || (c || d)) ≡ ((a || c) || (b || d))
or_mix true b c d = refl
or_mix false true true d = refl
or_mix false true false d = refl
or_mix false false c d = refl

any_or : {X : Type 0} (f g : X → Bool) (xs : List X) → list_any (λ (x : X). f x || g x) xs ≡ (list_any f xs || list_any g xs)
any_or f g [] = refl
any_or f g (x ∷ xs) = ap (λ (b : Bool). (f x || g x) || b) (any_or f g xs) ∙ or_mix (f x) (g x) (list_any f xs) (list_any g xs)

-- the order in which two lists are gone through
pub any_swap : {X Y : Type 0} (r : X → Y → Bool) (xs : List X) (ys : List Y) → list_any (λ (x : X). list_any (λ (y : Y). r x y) ys) xs ≡ list_any (λ (y : Y). list_any (λ (x : X). r x y) xs) ys
any_swap {X} r xs [] = any_false xs
any_swap {X} {Y} r xs (y ∷ ys) =
    any_or (λ (x : X). r x y) (λ (x : X). list_any (λ (z : Y). r x z) ys) xs ∙ ap (λ (b : Bool). list_any (λ (x : X). r x y) xs || b) (any_swap r xs ys)

pub any_and : {X : Type 0} (b : Bool) (p : X → Bool) (xs : List X) → (b && list_any p xs) ≡ list_any (λ (x : X). b && p x) xs
any_and true p xs = refl
any_and false p xs = sym (any_false xs)
