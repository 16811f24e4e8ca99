-- What is told of the elements of a list, one at a time.
use Rattle.std.proofs.Common.{◌≡◌, ◌≤◌, inl, inr, ℕ, ◌+◌, zero, suc, List, [], ◌∷◌, ◌++◌, drop, length, slice_get, Some, refl, sym, ap, ◌∙◌, subst, arith}
use Rattle.std.proofs.lemmas.List.{append_assoc, append-nil}
use Rattle.kmipa_explain.specs.Told.{AreTold, IsNoted}
use Rattle.kmipa_explain.proofs.KeptLemmas.{drop_at, drop_all}

module _ {X Y : Type 0} (Tells : ℕ → X → Y → Type 0) (Passes : ℕ → X → Type 0) where
  module _ (xs : List X) where
    -- these were told up to a place: what is told from there on goes on from them
    abbrev pub ToldUpTo : ℕ → List Y → Type 0
    ToldUpTo place ys = (more : List Y) → AreTold Tells Passes place (drop place xs) more → AreTold Tells Passes 0 xs (ys ++ more)

    pub told_none : (ys : List Y) → ys ≡ [] → ToldUpTo 0 ys
    told_none ys none more h = let T : List Y → Type 0 = λ zs. AreTold Tells Passes 0 xs (zs ++ more) in subst T (sym none) h

    pub told_more : (place : ℕ) (x : X) (ys zs : List Y) → slice_get xs place ≡ Some x → IsNoted (Tells place x) (Passes place x) ys zs → ToldUpTo place ys → ToldUpTo (place + 1) zs
    told_more place x ys zs at noted upto more h = by noted
      where
        D : ℕ → Type 0
        D n = AreTold Tells Passes (place + 1) (drop n xs) more

        behind : AreTold Tells Passes (place + 1) (drop (suc place) xs) more
        behind = let e : place + 1 ≡ suc place = omega arith in subst D e h

        at_place : (ws : List Y) → AreTold Tells Passes place (x ∷ drop (suc place) xs) ws → AreTold Tells Passes 0 xs (ys ++ ws)
        at_place ws here = let L : List X → Type 0 = λ l. AreTold Tells Passes place l ws in upto ws (subst L (sym (drop_at xs place x at)) here)

        T : List Y → Type 0
        T = AreTold Tells Passes 0 xs

        by : IsNoted (Tells place x) (Passes place x) ys zs → AreTold Tells Passes 0 xs (zs ++ more)
        by (inl n) = subst T (sym (append_assoc ys (n.0 ∷ []) more) ∙ ap (λ (l : List Y). l ++ more) (sym n.1)) (at_place (n.0 ∷ more) (inl (n.0, more, refl, n.2, behind)))
        by (inr p) = subst T (ap (λ (l : List Y). l ++ more) (sym p.1)) (at_place more (inr (p.0, behind)))

    pub told_all : (place : ℕ) (ys : List Y) → length xs ≤ place → ToldUpTo place ys → AreTold Tells Passes 0 xs ys
    told_all place ys end upto =
        let T : List Y → Type 0 = AreTold Tells Passes 0 xs in
        let L : List X → Type 0 = λ l. AreTold Tells Passes place l [] in
        subst T (append-nil ys) (upto [] (subst L (sym (drop_all xs place end)) refl))

  -- where nothing is told each passes
  pub all_pass : (place : ℕ) (xs : List X) → AreTold Tells Passes place xs [] → (k : ℕ) (x : X) → slice_get xs k ≡ Some x → Passes (place + k) x
  all_pass place [] h k x at = absurd cc
  all_pass place (y ∷ xs) (inl t) k x at = let e : [] ≡ t.0 ∷ t.1 = t.2 in absurd cc
  all_pass place (y ∷ xs) (inr p) zero x at =
      let P : ℕ → Type 0 = λ n. Passes n x in
      let e : place ≡ place + 0 = omega arith in
      let same : y ≡ x = cc in
      subst P e (subst (Passes place) same p.0)
  all_pass place (y ∷ xs) (inr p) (suc k) x at =
      let P : ℕ → Type 0 = λ n. Passes n x in
      let e : place + 1 + k ≡ place + suc k = omega arith in
      subst P e (all_pass (place + 1) xs p.1 k x at)
