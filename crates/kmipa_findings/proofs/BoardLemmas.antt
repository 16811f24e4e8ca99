-- Which calls are taken, one more and one less.
use Rattle.std.proofs.Common.{◌≡◌, ◌≢◌, ◌≤◌, ◌<◌, ◌⊎◌, inl, inr, ℕ, zero, suc, Bool, true, false, List, [], ◌∷◌, length, set, Contains, refl, sym, ap, ◌∙◌, subst, arith}
use Rattle.std.proofs.lemmas.List.{get_or-set_same, get_or-set_other, length-set}
use Rattle.std.proofs.lemmas.List.Elements.{Contains-append_right}
use Rattle.std.specs.Prelude.{slice_set}
use Rattle.kmipa_check.proofs.PlaceLemmas.{contains_at}
use Rattle.kmipa_findings.specs.Boards.{IsBoard}
use Rattle.kmipa_findings.specs.Flags.{flag_at}
use Rattle.kmipa_findings.specs.declared.board.Board.{Board}

pub same_or : (i j : ℕ) → (i ≡ j) ⊎ (i ≢ j)
same_or zero zero = inl refl
same_or zero (suc j) = inr (λ e. omega (arith, e))
same_or (suc i) zero = inr (λ e. omega (arith, e))
same_or (suc i) (suc j) = elim (same_or i j) [ inl e ↦ inl (ap suc e) | inr d ↦ inr (λ e. d (omega (arith, e))) ]

pub one_cases : {X : Type 0} (x y : X) (xs : List X) → Contains (x ∷ xs) y → (x ≡ y) ⊎ Contains xs y
one_cases x y xs (zero, below, is) = inl is
one_cases x y xs (suc k, below, is) = inr (k, omega (arith, below), is)

pub has_head : {X : Type 0} (x : X) (xs : List X) → Contains (x ∷ xs) x
has_head x xs = contains_at (x ∷ xs) 0 x refl

pub has_tail : {X : Type 0} (x y : X) (xs : List X) → Contains xs y → Contains (x ∷ xs) y
has_tail x y xs has = Contains-append_right (x ∷ []) xs y has

flag_within : (flags : List Bool) (p : ℕ) → flag_at flags p ≡ true → p < length flags
flag_within [] p m = let clash : false ≡ true = m in absurd cc
flag_within (b ∷ flags) zero m = omega arith
flag_within (b ∷ flags) (suc p) m = omega (arith, flag_within flags p m)

module _ (count : ℕ) (taken : List ℕ) (place : ℕ) (b : Board) where
  module _ (a : IsBoard count taken b) (below : place < count) where
    flagged_now : (p : ℕ) → (p ≡ place) ⊎ (flag_at b.flags.items p ≡ true) → flag_at (set b.flags.items place true) p ≡ true
    flagged_now p h = elim (same_or p place) [
      | inl e ↦ let P : ℕ → Type 0 = λ q. flag_at (set b.flags.items place true) q ≡ true in subst P (sym e) (get_or-set_same b.flags.items place true false (omega (arith, below, a.counted)))
      | inr d ↦ get_or-set_other b.flags.items place p true false d ∙ elim h [ inl e ↦ absurd (d e) | inr m ↦ m ]
    ]

    pub below_kept : (p : ℕ) → p < b.low → flag_at (set b.flags.items place true) p ≡ true
    below_kept p less = flagged_now p (inr (a.below p less))

    pub board_more : (c : Board) → c.flags.items ≡ slice_set b.flags.items place true → ((p : ℕ) → p < c.low → flag_at c.flags.items p ≡ true)
        → (c.low < length c.flags.items → flag_at c.flags.items c.low ≡ false) → IsBoard count (place ∷ taken) c
    board_more c is low left = record {
      counted = long;
      flagged = λ p m. elim (same_or p place) [
        | inl e ↦ let P : ℕ → Type 0 = λ q. Contains (place ∷ taken) q in subst P (sym e) (has_head place taken)
        | inr d ↦ has_tail place p taken (a.flagged p (was p d m))
      ];
      each = λ p has. ap (λ (fs : List Bool). flag_at fs p) is ∙ flagged_now p (elim (one_cases place p taken has) [ inl e ↦ inl (sym e) | inr t ↦ inr (a.each p t) ]);
      below = low;
      left = λ some. left (omega (arith, some, long));
    }
      where
        long : length c.flags.items ≡ count
        long = ap length is ∙ length-set b.flags.items place true ∙ a.counted

        was : (p : ℕ) → p ≢ place → flag_at c.flags.items p ≡ true → flag_at b.flags.items p ≡ true
        was p d m = sym (get_or-set_other b.flags.items place p true false d) ∙ sym (ap (λ (fs : List Bool). flag_at fs p) is) ∙ m

  -- and one less
  module _ (a : IsBoard count (place ∷ taken) b) where
    within : place < length b.flags.items
    within = flag_within b.flags.items place (a.each place (has_head place taken))

    pub board_less : (c : Board) → c.flags.items ≡ slice_set b.flags.items place false → c.low ≤ b.low → c.low ≤ place → (c.low ≡ b.low) ⊎ (c.low ≡ place)
        → (Contains taken place → ⊥) → IsBoard count taken c
    board_less c is less low one fresh = record {
      counted = long;
      flagged = λ p m. elim (same_or p place) [
        | inl e ↦ absurd (clash p e m)
        | inr d ↦ elim (one_cases place p taken (a.flagged p (sym (get_or-set_other b.flags.items place p false false d) ∙ sym (ap (λ (fs : List Bool). flag_at fs p) is) ∙ m))) [ inl e ↦ absurd (d (sym e)) | inr t ↦ t ]
      ];
      each = λ p has. elim (same_or p place) [
        | inl e ↦ absurd (let P : ℕ → Type 0 = λ q. Contains taken q in fresh (subst P e has))
        | inr d ↦ now p true d (a.each p (has_tail place p taken has))
      ];
      below = λ p h. now p true (λ e. omega (arith, e, h, low)) (a.below p (omega (arith, h, less)));
      left = λ some. elim (same_or c.low place) [
        | inl e ↦ let P : ℕ → Type 0 = λ q. flag_at c.flags.items q ≡ false in subst P (sym e) here
        | inr d ↦ elim one [ inl e ↦ now c.low false d (let P : ℕ → Type 0 = λ q. flag_at b.flags.items q ≡ false in subst P (sym e) (a.left (omega (arith, some, e)))) | inr e ↦ absurd (d e) ]
      ];
    }
      where
        long : length c.flags.items ≡ count
        long = ap length is ∙ length-set b.flags.items place false ∙ a.counted

        now : (p : ℕ) (v : Bool) → p ≢ place → flag_at b.flags.items p ≡ v → flag_at c.flags.items p ≡ v
        now p v d m = ap (λ (fs : List Bool). flag_at fs p) is ∙ get_or-set_other b.flags.items place p false false d ∙ m

        here : flag_at c.flags.items place ≡ false
        here = ap (λ (fs : List Bool). flag_at fs place) is ∙ get_or-set_same b.flags.items place false false within

        clash : (p : ℕ) → p ≡ place → flag_at c.flags.items p ≡ true → ⊥
        clash p e m =
            let P : ℕ → Type 0 = λ q. flag_at c.flags.items q ≡ true in
            let t : false ≡ true = sym here ∙ subst P e m in
            absurd cc
