-- What is gathered from a list, element by element.
use Rattle.std.proofs.Common.{◌≡◌, ◌∙◌, ◌++◌, ◌+◌, refl, ap, sym, ℕ, List, [], ◌∷◌, drop, slice_get, Some, append_assoc}
use Rattle.kmipa_aside.proofs.SettingLemmas.{drop_here}

pub append_nil : {X : Type 0} (xs : List X) → xs ++ [] ≡ xs
append_nil [] = refl
append_nil {X} (x ∷ xs) = ap (λ (ys : List X). x ∷ ys) (append_nil xs)

-- of each element something, one behind the other
module _ {X Y : Type 0} (f : List X → List Y) (split : (x : X) (xs : List X) → f (x ∷ xs) ≡ f (x ∷ []) ++ f xs) where
  pub gathered_more : (xs : List X) (i : ℕ) (x : X) → slice_get xs i ≡ Some x → (done more : List Y) → more ≡ done ++ f (x ∷ []) → done ++ f (drop i xs) ≡ f xs
      → more ++ f (drop (i + 1) xs) ≡ f xs
  gathered_more xs i x at done more e h =
      let rest : List Y = f (drop (i + 1) xs) in
      ap (λ (ys : List Y). ys ++ rest) e ∙ append_assoc done (f (x ∷ [])) rest
      ∙ ap (λ (ys : List Y). done ++ ys) (sym (split x (drop (i + 1) xs)) ∙ sym (ap f (drop_here xs i x at))) ∙ h

-- of each element this, one behind the other
pub collected_more : {X Y : Type 0} (f : List X → List Y) (g : X → List Y) → ((x : X) (xs : List X) → f (x ∷ xs) ≡ g x ++ f xs) → (xs : List X) (i : ℕ) (x : X) → slice_get xs i ≡ Some x
    → (done more : List Y) → more ≡ done ++ g x → done ++ f (drop i xs) ≡ f xs → more ++ f (drop (i + 1) xs) ≡ f xs
collected_more {X} {Y} f g split xs i x at done more e h =
    let rest : List Y = f (drop (i + 1) xs) in
    ap (λ (ys : List Y). ys ++ rest) e ∙ append_assoc done (g x) rest
    ∙ ap (λ (ys : List Y). done ++ ys) (sym (split x (drop (i + 1) xs)) ∙ sym (ap f (drop_here xs i x at))) ∙ h
