-- How many tries are owed.
use Rattle.std.proofs.Common.{◌≡◌, ◌≢◌, ◌<◌, ◌≤◌, inl, inr, ◌==◌, ℕ, zero, suc, ◌+◌, ◌-◌, Bool, true, false, cond, List, ◌∷◌, length, refl, sym, ap, subst, arith, rules}
use Rattle.std.proofs.lemmas.Option.{slice_get_within}
use Rattle.kmipa_check.specs.Steps.{StepOf}
use Rattle.kmipa_orders.specs.Next.{IsNext, sum_from, weigh}
use Rattle.kmipa_orders.specs.Tries.{IsTried, IsPick, none_tried}
use Rattle.kmipa_orders.specs.Progress.{cost, IsOwed}
use Rattle.kmipa_orders.specs.declared.tried.Tried.{Tried}
use Rattle.kmipa_orders.proofs.NextTestLemmas.{of_next}
use Rattle.kmipa_orders.proofs.PickLemmas.{lower}

same_of : (a b : ℕ) → (a == b) ≡ true → a ≡ b
same_of a b h = search rules

differ_of : (a b : ℕ) → (a == b) ≡ false → a ≡ b → ⊥
differ_of a b h e = let d : a ≢ b = search rules in d e

-- one place costs nothing any more
abbrev without : (ℕ → ℕ) → ℕ → ℕ → ℕ
without f p q = cond (q == p) 0 (f q)

without_it : (f : ℕ → ℕ) (p : ℕ) → without f p p ≡ 0
without_it f p = by (p == p) refl
  where
    by : (b : Bool) → (p == p) ≡ b → cond b 0 (f p) ≡ 0
    by true is = refl
    by false is = absurd (differ_of p p is refl)

without_other : (f : ℕ → ℕ) (p q : ℕ) → (q ≡ p → ⊥) → without f p q ≡ f q
without_other f p q apart = by (q == p) refl
  where
    by : (b : Bool) → (q == p) ≡ b → cond b 0 (f q) ≡ f q
    by true is = absurd (apart (same_of q p is))
    by false is = refl

sum_behind : (f : ℕ → ℕ) (p n from : ℕ) → p < from → sum_from (without f p) n from ≡ sum_from f n from
sum_behind f p zero from less = refl
sum_behind f p (suc n) from less =
    let here = without_other f p from (λ e. omega (arith, e, less)) in
    let rest = sum_behind f p n (suc from) (omega (arith, less)) in
    omega (arith, here, rest)

sum_without : (f : ℕ → ℕ) (p n from : ℕ) → from ≤ p → p < from + n → f p + sum_from (without f p) n from ≡ sum_from f n from
sum_without f p zero from low below = absurd (omega (arith, low, below))
sum_without f p (suc n) from low below = elim (lower p from) [
  | inl less ↦
      let here = without_other f p from (λ e. omega (arith, e, less)) in
      let rest = sum_without f p n (suc from) (omega (arith, less)) (omega (arith, below)) in
      omega (arith, here, rest)
  | inr high ↦
      let e : from ≡ p = omega (arith, high, low) in
      let P : ℕ → Type 0 = λ k. f p + sum_from (without f p) (suc n) k ≡ sum_from f (suc n) k in
      subst P (sym e) (let here = without_it f p in let rest = sum_behind f p n (suc p) (omega arith) in omega (arith, here, rest))
]

module _ (calls : List StepOf) (taken : List ℕ) where
  cost_next : (p : ℕ) → IsNext calls taken p → cost calls taken p ≡ suc (weigh (length calls - suc (length taken)) calls (p ∷ taken))
  cost_next p n = ap (λ (b : Bool). cond b (suc (weigh (length calls - suc (length taken)) calls (p ∷ taken))) 0) (of_next calls taken p n)

  pub owed_begins : (wishes : List ℕ) → length taken < length calls → IsOwed calls wishes taken none_tried (weigh (length calls - length taken) calls taken)
  owed_begins wishes few = record {
    each = cost calls taken;
    enough = λ p n fresh. let e = cost_next p n in omega (arith, e);
    sum = let e : length calls - length taken ≡ suc (length calls - suc (length taken)) = omega (arith, few) in let same = ap (λ (k : ℕ). weigh k calls taken) e in omega (arith, same);
  }

  module _ (wishes : List ℕ) (t : Tried) (amount : ℕ) (o : IsOwed calls wishes taken t amount) where
    -- a call is tried
    pub owed_picked : (p : ℕ) (u : Tried) → IsPick calls taken wishes t p u → (rest : ℕ) × IsOwed calls wishes taken u rest × (suc (weigh (length calls - suc (length taken)) calls (p ∷ taken)) + rest ≤ amount)
    owed_picked p u k =
        let f = o.each in
        let below = slice_get_within calls p k.next.call k.next.there in
        let paid = o.enough p k.next k.fresh in
        let all = sum_without f p (length calls) 0 (omega arith) (omega (arith, below)) in
        let most = o.sum in (
          sum_from (without f p) (length calls) 0,
          record {
            each = without f p;
            enough = λ q n fresh.
                let same = without_other f p q (λ e. let P : ℕ → Type 0 = λ z. IsTried wishes u z in fresh (subst P (sym e) k.tried)) in
                let some = o.enough q n (λ h. fresh (k.more q h)) in
                omega (arith, same, some);
            sum = omega arith;
          },
          omega (arith, paid, all, most),
        )

    -- no call is left
    pub owed_closed : (u : Tried) → ((p : ℕ) → IsTried wishes u p) → IsOwed calls wishes taken u amount
    owed_closed u all = record { each = o.each; enough = λ p n fresh. absurd (fresh (all p)); sum = o.sum }
