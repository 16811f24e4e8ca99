-- The first of a list of reasons that holds.
use Rattle.std.proofs.Common.{◌≡◌, ◌||◌, ℕ, zero, suc, Bool, true, false, cond, List, [], ◌∷◌, ◌++◌, find, slice_get, Option, Some, None, refl, ap, sym, ◌∙◌}
use Rattle.std.specs.Option.{option_or}

or_false : (a b : Bool) → b ≡ false → (a || b) ≡ a
or_false true b e = refl
or_false false b e = e

module _ {X : Type 0} where
  pub or_none : (o : Option X) → option_or o None ≡ o
  or_none None = refl
  or_none (Some x) = refl

  pub or_or : (a b c : Option X) → option_or (option_or a b) c ≡ option_or a (option_or b c)
  or_or None b c = refl
  or_or (Some x) b c = refl

  cond_or : (t : Bool) (x : X) (a b : Option X) → cond t (Some x) (option_or a b) ≡ option_or (cond t (Some x) a) b
  cond_or true x a b = refl
  cond_or false x a b = refl

  pub cond_none : (t : Bool) (x : X) (r : Option X) → cond t (Some x) r ≡ None → (t ≡ false) × (r ≡ None)
  cond_none true x r e = let bad : ⊥ = cc in absurd bad
  cond_none false x r e = (refl, e)

  -- of two lists one after the other
  pub find-append : (p : X → Bool) (xs ys : List X) → find p (xs ++ ys) ≡ option_or (find p xs) (find p ys)
  find-append p [] ys = refl
  find-append p (x ∷ xs) ys = ap (λ (o : Option X). cond (p x) (Some x) o) (find-append p xs ys) ∙ cond_or (p x) x (find p xs) (find p ys)

  -- of two tests, where one of them never holds
  pub find-or : (f h : X → Bool) (xs : List X) → find h xs ≡ None → find (λ (x : X). f x || h x) xs ≡ find f xs
  find-or f h [] e = refl
  find-or f h (x ∷ xs) e =
      let q = cond_none (h x) x (find h xs) e in
      ap (λ (b : Bool). cond b (Some x) (find (λ (y : X). f y || h y) xs)) (or_false (f x) (h x) q.0)
      ∙ ap (λ (o : Option X). cond (f x) (Some x) o) (find-or f h xs q.1)

  -- where none is found, none of the elements passes
  pub find-none : (p : X → Bool) (xs : List X) (n : ℕ) (x : X) → find p xs ≡ None → slice_get xs n ≡ Some x → p x ≡ false
  find-none p [] n x e at = let bad : ⊥ = cc in absurd bad
  find-none p (y ∷ xs) zero x e at = let q = cond_none (p y) y (find p xs) e in let same : y ≡ x = cc in ap p (sym same) ∙ q.0
  find-none p (y ∷ xs) (suc n) x e at = find-none p xs n x (cond_none (p y) y (find p xs) e).1 at

  pub find-some : (p : X → Bool) (xs : List X) (x : X) → find p xs ≡ Some x → p x ≡ true
  find-some p [] x e = let bad : ⊥ = cc in absurd bad
  find-some p (y ∷ xs) x e =
      (elim (p y) as (λ t. p y ≡ t → cond t (Some y) (find p xs) ≡ Some x → p x ≡ true) [
        | true ↦ λ is q. let same : y ≡ x = cc in ap p (sym same) ∙ is
        | false ↦ λ is q. find-some p xs x q
      ]) refl e
