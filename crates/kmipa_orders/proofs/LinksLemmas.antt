-- A line, one element less or more.
use Rattle.std.proofs.Common.{◌≡◌, ◌≢◌, ◌<◌, ◌⊎◌, inl, inr, ℕ, zero, suc, ◌+◌, List, [], ◌∷◌, length, set, refl, sym, ap, ◌∙◌, subst, arith}
use Rattle.std.proofs.lemmas.List.{set-get_or, get_or-set_same, get_or-set_other, length-set}
use Rattle.kmipa_orders.specs.Links.{at, IsAfter, IsBefore, AreLinked, after_without, before_without, after_with, before_with}

pub same_or : (i j : ℕ) → (i ≡ j) ⊎ (i ≢ j)
same_or zero zero = inl refl
same_or zero (suc j) = inr (λ e. omega (arith, e))
same_or (suc i) zero = inr (λ e. omega (arith, e))
same_or (suc i) (suc j) = elim (same_or i j) [ inl e ↦ inl (ap suc e) | inr d ↦ inr (λ e. d (omega (arith, e))) ]

-- three-way
pub which : (i j : ℕ) → (i < j) ⊎ ((i ≡ j) ⊎ (j < i))
which zero zero = inr (inl refl)
which zero (suc j) = inl (omega arith)
which (suc i) zero = inr (inr (omega arith))
which (suc i) (suc j) = elim (which i j) [ inl h ↦ inl (omega (arith, h)) | inr g ↦ elim g [ inl e ↦ inr (inl (ap suc e)) | inr h ↦ inr (inr (omega (arith, h))) ] ]

set_twice : (xs : List ℕ) (i u v : ℕ) → set (set xs i u) i v ≡ set xs i v
set_twice [] i u v = refl
set_twice (x ∷ xs) zero u v = refl
set_twice (x ∷ xs) (suc i) u v = ap (λ (ys : List ℕ). x ∷ ys) (set_twice xs i u v)

set_back : (xs : List ℕ) (i u v : ℕ) → at xs i ≡ v → set (set xs i u) i v ≡ xs
set_back xs i u v e = set_twice xs i u v ∙ ap (set xs i) (sym e) ∙ set-get_or xs i 0

module _ (count : ℕ) (left : ℕ → Type 0) (A B : List ℕ) (line : AreLinked count left A B) (x : ℕ) (there : left x) where
  abbrev pub a : ℕ
  a = at A x

  abbrev pub b : ℕ
  b = at B x

  next : IsAfter count left x a
  next = line.afters x (inl there)

  prev : IsBefore left b x
  prev = line.befores x (inl there)

  -- what comes before x knows it as the next one, and it alone
  pub after_prev : at A b ≡ x
  after_prev =
      let n = line.afters b prev.stands in
      elim (which (at A b) x) [
        | inl less ↦ elim n.stands [ inl l ↦ absurd (prev.none (at A b) l n.onward less) | inr e ↦ absurd (omega (arith, e, less, (line.within x there).1)) ]
        | inr g ↦ elim g [ inl e ↦ e | inr more ↦ absurd (n.none x there prev.onward more) ]
      ]

  pub before_next : at B a ≡ x
  before_next =
      let s = elim next.stands as (λ q. left a ⊎ (a ≡ count + 1)) [ inl l ↦ inl l | inr e ↦ inr e ] in
      let p = line.befores a s in
      elim (which (at B a) x) [
        | inl less ↦ absurd (p.none x there less next.onward)
        | inr g ↦ elim g [
          | inl e ↦ e
          | inr more ↦ elim p.stands [ inl l ↦ absurd (next.none (at B a) l more p.onward) | inr e ↦ absurd (omega (arith, e, more)) ]
        ]
      ]

  only_prev : (i : ℕ) → left i ⊎ (i ≡ 0) → i ≢ b → at A i ≢ x
  only_prev i s differ e =
      let n = line.afters i s in
      elim (which i b) [
        | inl less ↦ elim prev.stands [
          | inl l ↦ n.none b l less (omega (arith, e, prev.onward))
          | inr z ↦ omega (arith, z, less)
        ]
        | inr g ↦ elim g [
          | inl same ↦ differ same
          | inr more ↦ elim s [
            | inl l ↦ prev.none i l more (omega (arith, n.onward, e))
            | inr z ↦ omega (arith, z, more)
          ]
        ]
      ]

  only_next : (j : ℕ) → left j ⊎ (j ≡ count + 1) → j ≢ a → at B j ≢ x
  only_next j s differ e =
      let p = line.befores j s in
      elim (which j a) [
        | inl less ↦ elim s [
          | inl l ↦ next.none j l (omega (arith, e, p.onward)) less
          | inr z ↦ omega (arith, z, less, next.within)
        ]
        | inr g ↦ elim g [
          | inl same ↦ differ same
          | inr more ↦ elim next.stands [
            | inl l ↦ p.none a l (omega (arith, e, next.onward)) more
            | inr z ↦ elim s [
              | inl l ↦ omega (arith, z, more, (line.within j l).1)
              | inr y ↦ omega (arith, z, y, more)
            ]
          ]
        ]
      ]

  -- the line without x
  pub links_without : AreLinked count (λ k. left k × (k ≢ x)) (after_without A B x) (before_without A B x)
  links_without = record {
    long_after = length-set A b a ∙ line.long_after;
    long_before = length-set B a b ∙ line.long_before;
    within = λ k l. line.within k l.0;
    afters = λ i s. after i (weak i s) (apart i s) (same_or i b);
    befores = λ j s. before j (weaker j s) (apart_too j s) (same_or j a);
  }
    where
      weak : (i : ℕ) → (left i × (i ≢ x)) ⊎ (i ≡ 0) → left i ⊎ (i ≡ 0)
      weak i (inl l) = inl l.0
      weak i (inr z) = inr z

      apart : (i : ℕ) → (left i × (i ≢ x)) ⊎ (i ≡ 0) → i ≢ x
      apart i (inl l) = l.1
      apart i (inr z) = λ e. omega (arith, z, e, (line.within x there).0)

      weaker : (i : ℕ) → (left i × (i ≢ x)) ⊎ (i ≡ count + 1) → left i ⊎ (i ≡ count + 1)
      weaker i (inl l) = inl l.0
      weaker i (inr z) = inr z

      apart_too : (i : ℕ) → (left i × (i ≢ x)) ⊎ (i ≡ count + 1) → i ≢ x
      apart_too i (inl l) = l.1
      apart_too i (inr z) = λ e. omega (arith, z, e, (line.within x there).1)

      low : b < length A
      low = omega (arith, line.long_after, prev.onward, (line.within x there).1)

      high : a < length B
      high = omega (arith, line.long_before, next.within)

      after : (i : ℕ) → left i ⊎ (i ≡ 0) → i ≢ x → (i ≡ b) ⊎ (i ≢ b) → IsAfter count (λ k. left k × (k ≢ x)) i (at (set A b a) i)
      after i s out (inl e) =
          let P : ℕ → Type 0 = λ k. IsAfter count (λ k. left k × (k ≢ x)) k (at (set A b a) k) in
          let Q : ℕ → Type 0 = λ v. IsAfter count (λ k. left k × (k ≢ x)) b v in
          subst P (sym e) (subst Q (sym (get_or-set_same A b a 0 low)) (record {
            onward = omega (arith, prev.onward, next.onward);
            within = next.within;
            stands = elim next.stands [ inl l ↦ inl (l, λ z. omega (arith, z, next.onward)) | inr z ↦ inr z ];
            none = λ k l more less. elim (which k x) [
              | inl h ↦ prev.none k l.0 more h
              | inr g ↦ elim g [ inl same ↦ l.1 same | inr h ↦ next.none k l.0 h less ]
            ];
          }))
      after i s out (inr differ) =
          let n = line.afters i s in
          let Q : ℕ → Type 0 = λ v. IsAfter count (λ k. left k × (k ≢ x)) i v in
          subst Q (sym (get_or-set_other A b i a 0 differ)) (record {
            onward = n.onward;
            within = n.within;
            stands = elim n.stands [ inl l ↦ inl (l, only_prev i s differ) | inr z ↦ inr z ];
            none = λ k l more less. n.none k l.0 more less;
          })

      before : (j : ℕ) → left j ⊎ (j ≡ count + 1) → j ≢ x → (j ≡ a) ⊎ (j ≢ a) → IsBefore (λ k. left k × (k ≢ x)) (at (set B a b) j) j
      before j s out (inl e) =
          let P : ℕ → Type 0 = λ k. IsBefore (λ k. left k × (k ≢ x)) (at (set B a b) k) k in
          let Q : ℕ → Type 0 = λ v. IsBefore (λ k. left k × (k ≢ x)) v a in
          subst P (sym e) (subst Q (sym (get_or-set_same B a b 0 high)) (record {
            onward = omega (arith, prev.onward, next.onward);
            stands = elim prev.stands [ inl l ↦ inl (l, λ z. omega (arith, z, prev.onward)) | inr z ↦ inr z ];
            none = λ k l more less. elim (which k x) [
              | inl h ↦ prev.none k l.0 more h
              | inr g ↦ elim g [ inl same ↦ l.1 same | inr h ↦ next.none k l.0 h less ]
            ];
          }))
      before j s out (inr differ) =
          let p = line.befores j s in
          let Q : ℕ → Type 0 = λ v. IsBefore (λ k. left k × (k ≢ x)) v j in
          subst Q (sym (get_or-set_other B a j b 0 differ)) (record {
            onward = p.onward;
            stands = elim p.stands [ inl l ↦ inl (l, only_next j s differ) | inr z ↦ inr z ];
            none = λ k l more less. p.none k l.0 more less;
          })

  -- and x comes back to its place
  pub after_again : after_with (after_without A B x) (before_without A B x) x ≡ A
  after_again =
      let same : at (set B a b) x ≡ b = get_or-set_other B a x b 0 (λ e. omega (arith, e, next.onward)) in
      ap (λ (k : ℕ). set (set A b a) k x) same ∙ set_back A b a x after_prev

  pub before_again : before_with (after_without A B x) (before_without A B x) x ≡ B
  before_again =
      let same : at (set A b a) x ≡ a = get_or-set_other A b x a 0 (λ e. omega (arith, e, prev.onward)) in
      ap (λ (k : ℕ). set (set B a b) k x) same ∙ set_back B a b x before_next

-- the same elements
pub links_same : (count : ℕ) (left other : ℕ → Type 0) (A B : List ℕ) → ((k : ℕ) → left k → other k) → ((k : ℕ) → other k → left k) → AreLinked count left A B → AreLinked count other A B
links_same count left other A B to from line = record {
  long_after = line.long_after;
  long_before = line.long_before;
  within = λ k l. line.within k (from k l);
  afters = λ i s.
      let n = line.afters i (elim s [ inl l ↦ inl (from i l) | inr z ↦ inr z ]) in
      record { onward = n.onward; within = n.within; stands = elim n.stands [ inl l ↦ inl (to (at A i) l) | inr z ↦ inr z ]; none = λ k l more less. n.none k (from k l) more less };
  befores = λ j s.
      let p = line.befores j (elim s [ inl l ↦ inl (from j l) | inr z ↦ inr z ]) in
      record { onward = p.onward; stands = elim p.stands [ inl l ↦ inl (to (at B j) l) | inr z ↦ inr z ]; none = λ k l more less. p.none k (from k l) more less };
}
