-- Where the calls are forced at their stamps, there is one next call at most.
use Rattle.std.proofs.Common.{◌≡◌, ◌<◌, ◌≤◌, inl, inr, ℕ, zero, suc, ◌+◌, ℤ, pos, negsuc, ◌+ℤ◌, ◌≤ℤ◌, Bool, true, false, cond, List, [], ◌∷◌, length, get_or, Some, slice_get, refl, sym, ap, subst, arith}
use Rattle.std.specs.Prelude.{AllPairs}
use Rattle.std.proofs.lemmas.Option.{slice_get_within, get_or_from_slice_get}
use Rattle.std.proofs.Math.Nat.{le_antisymm}
use Rattle.std.proofs.Math.Facts.{leb_yes}
use Rattle.std.proofs.Math.IntN.{+ℤ_idr}
use Rattle.kmipa_check.specs.Moments.{IsNear}
use Rattle.kmipa_check.specs.Steps.{StepOf}
use Rattle.kmipa_orders.specs.Plain.{AreApart}
use Rattle.kmipa_orders.specs.Next.{IsNext, is_next, sum_from, weigh, weight}
use Rattle.kmipa_orders.proofs.NextTestLemmas.{next_of}

sum_zero : (f : ℕ → ℕ) (n k : ℕ) → ((p : ℕ) → k ≤ p → f p ≡ 0) → sum_from f n k ≡ 0
sum_zero f zero k h = refl
sum_zero f (suc n) k h = omega (arith, h k (omega arith), sum_zero f n (suc k) (λ p low. h p (omega (arith, low))))

-- a sum of which one part counts
sum_one : (f : ℕ → ℕ) (b n k : ℕ) → ((p : ℕ) → f p ≤ b) → ((p q : ℕ) → p < q → 0 < f p → 0 < f q → ⊥) → sum_from f n k ≤ b
sum_one f b zero k most one = omega arith
sum_one f b (suc n) k most one = by (f k) refl (sum_one f b n (suc k) most one)
  where
    none : (v : ℕ) → f k ≡ suc v → (p : ℕ) → suc k ≤ p → f p ≡ 0
    none v is p low = at (f p) refl
      where
        at : (w : ℕ) → f p ≡ w → f p ≡ 0
        at zero e = e
        at (suc w) e = absurd (one k p (omega (arith, low)) (omega (arith, is)) (omega (arith, e)))

    by : (v : ℕ) → f k ≡ v → sum_from f n (suc k) ≤ b → f k + sum_from f n (suc k) ≤ b
    by zero is rest = omega (arith, is, rest)
    by (suc v) is rest = omega (arith, most k, sum_zero f n (suc k) (none v is))

pair_at : {X : Type 0} (R : X → X → Type 0) (xs : List X) (i j : ℕ) (x y : X) → AllPairs R xs → i < j → slice_get xs i ≡ Some x → slice_get xs j ≡ Some y → R x y
pair_at {X = X} R xs i j x y all below p q =
    let A : X → Type 0 = λ u. R u (get_or xs j x) in
    let B : X → Type 0 = λ v. R x v in
    subst B (get_or_from_slice_get xs j y x q) (subst A (get_or_from_slice_get xs i x x p) (all i j x below (slice_get_within xs j y q)))

pub antisym : (a b : ℤ) → a ≤ℤ b → b ≤ℤ a → a ≡ b
antisym (pos m) (pos n) p q = ap pos (le_antisymm (leb_yes p.le) (leb_yes q.le))
antisym (pos m) (negsuc n) p q = absurd p.le
antisym (negsuc m) (pos n) p q = absurd q.le
antisym (negsuc m) (negsuc n) p q = ap negsuc (le_antisymm (leb_yes q.le) (leb_yes p.le))

-- stamps that are no second apart
pub near_as_one : (a b : ℤ) → a ≤ℤ b → b ≤ℤ a → IsNear (pos 0 +ℤ pos 0) a b
near_as_one a b low high =
    let P : ℤ → Type 0 = λ z. b ≤ℤ z in
    let Q : ℤ → Type 0 = λ z. a ≤ℤ z in
    (subst P (sym (+ℤ_idr a)) high, subst Q (sym (+ℤ_idr b)) low)

pub one_as_near : (a b : ℤ) → IsNear (pos 0 +ℤ pos 0) a b → a ≡ b
one_as_near a b near =
    let P : ℤ → Type 0 = λ z. b ≤ℤ z in
    let Q : ℤ → Type 0 = λ z. a ≤ℤ z in
    antisym a b (subst Q (+ℤ_idr b) near.1) (subst P (+ℤ_idr a) near.0)

module _ (calls : List StepOf) (apart : AllPairs (AreApart (pos 0)) calls) where
  one_next : (taken : List ℕ) (p q : ℕ) → p < q → IsNext calls taken p → IsNext calls taken q → ⊥
  one_next taken p q below a b = elim (pair_at (AreApart (pos 0)) calls p q a.call b.call apart below a.there b.there) [
    | inl differ ↦ differ (near_as_one a.call.response.stamp b.call.response.stamp (a.least q b.call b.there b.left) (b.least p a.call a.there a.left))
    | inr g ↦ elim g [
      | inl before ↦ b.first p a.call a.there a.left before
      | inr before ↦ a.first q b.call b.there b.left before
    ]
  ]

  weigh_least : (left : ℕ) (taken : List ℕ) → weigh left calls taken ≤ left
  weigh_least zero taken = omega arith
  weigh_least (suc left) taken =
      sum_one (λ p. cond (is_next calls taken p) (suc (weigh left calls (p ∷ taken))) 0) (suc left) (length calls) 0
      (λ p. most (is_next calls taken p) (weigh left calls (p ∷ taken)) (weigh_least left (p ∷ taken)))
      (λ p q below a b. one_next taken p q below (next_of calls taken p (some (is_next calls taken p) (weigh left calls (p ∷ taken)) a)) (next_of calls taken q (some (is_next calls taken q) (weigh left calls (q ∷ taken)) b)))
    where
      most : (b : Bool) (w : ℕ) → w ≤ left → cond b (suc w) 0 ≤ suc left
      most true w h = omega (arith, h)
      most false w h = omega arith

      some : (b : Bool) (w : ℕ) → 0 < cond b (suc w) 0 → b ≡ true
      some true w h = refl
      some false w h = absurd (omega (arith, h))

  pub light : weight calls ≤ length calls
  light = weigh_least (length calls) []
