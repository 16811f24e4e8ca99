-- Calls that are apart at their stamps where those side by side in the order of these are.
use Rattle.std.proofs.Common.{◌≡◌, ◌<◌, ◌≤◌, ◌<ℤ◌, ◌≤ℤ◌, inl, inr, ℕ, zero, suc, ◌+◌, ◌-◌, ℤ, pos, true, false, nat_lt, List, length, get_or, sym, ap, ◌∙◌, subst, arith}
use Rattle.std.specs.Prelude.{AllPairs, int_lt}
use Rattle.std.specs.Int.Signed.{<ℤ_irrefl, lt_z_yes, ≤ℤ_refl}
use Rattle.std.proofs.lemmas.Int.{by_lt_z}
use Rattle.std.proofs.lemmas.Float.{T_from_true}
use Rattle.std.proofs.lemmas.Bool.{lt-ltb, ltb-true}
use Rattle.std.proofs.lemmas.Option.{get_or_from_slice_get, slice_get-get_or}
use Rattle.kmipa_check.specs.Steps.{StepOf}
use Rattle.kmipa_orders.specs.Plain.{AreApart}
use Rattle.kmipa_orders.specs.Progress.{AreBegun}
use Rattle.kmipa_orders.specs.Taken.{no_step, step_at}
use Rattle.kmipa_orders.specs.Links.{at}
use Rattle.kmipa_orders.specs.Ranks.{IsRanked, ByStamp, HasRank, end_of, AreEnded, AreClosed, parts}
use Rattle.kmipa_orders.proofs.NextTestLemmas.{either_true, neither, true_of}
use Rattle.kmipa_orders.proofs.LinksLemmas.{which}
use Rattle.kmipa_orders.proofs.ForcedLemmas.{antisym, near_as_one, one_as_near}
use Rattle.kmipa_orders.proofs.RankLemmas.{by_stamp_least, same_place, before_less, less_before}

module _ (calls : List StepOf) (O K : List ℕ) (ranked : IsRanked (length calls) (ByStamp calls) O K) (has : HasRank (length calls) K) where
  abbrev stamp : ℕ → ℤ
  stamp p = (step_at calls p).response.stamp

  -- the place of a rank
  pub placed : (r : ℕ) → 0 < r → r ≤ length calls → (at O r < length calls) × (at K (at O r) ≡ r)
  placed r some within =
      let q = has r some within in
      let e : at O r ≡ q.0 = ap (at O) (sym q.2) ∙ (ranked.placed q.0 q.1).2 in
      (omega (arith, e, q.1), ap (at K) e ∙ q.2)

  steps : (r s : ℕ) → 0 < r → r < s → s ≤ length calls → ByStamp calls (at O r) (at O s)
  steps r s some less within =
      let a = placed r some (omega (arith, less, within)) in
      let b = placed s (omega (arith, less)) within in
      ranked.sorted (at O r) (at O s) a.0 b.0 (omega (arith, a.1, b.1, less))

  module _ (begun : AreBegun calls) (closed : AreClosed calls) (ended : AreEnded calls) where
    same_or_less : (p q : ℕ) → ByStamp calls p q → int_lt (stamp p) (stamp q) ≡ false → (stamp p ≡ stamp q) × (p < q)
    same_or_less p q (inl less) no_less = let e : int_lt (stamp p) (stamp q) ≡ true = true_of _ less.lt in absurd cc
    same_or_less p q (inr same) no_less = same

    -- two that are side by side and not apart
    pub not_apart : (r : ℕ) → 0 < r → r < length calls → parts (step_at calls (at O r)) (step_at calls (at O (r + 1))) ≡ false → AllPairs (AreApart (pos 0)) calls → ⊥
    not_apart r some within is all =
        let p = at O r in
        let q = at O (r + 1) in
        let n = neither (int_lt (stamp p) (stamp q)) (nat_lt (end_of (step_at calls p)) (step_at calls q).begin) is in
        let s = same_or_less p q (steps r (r + 1) some (omega arith) (omega (arith, within))) n.0 in
        let b = (placed (r + 1) (omega arith) (omega (arith, within))).0 in
        let a = (placed r some (omega (arith, within))).0 in
        elim (all p q no_step s.1 b) [
          | inl apart ↦ let N : ℤ → Type 0 = λ z. z ≤ℤ stamp q in let M : ℤ → Type 0 = λ z. stamp q ≤ℤ z in
              apart (near_as_one (stamp p) (stamp q) (subst N (sym s.0) (≤ℤ_refl (stamp q))) (subst M (sym s.0) (≤ℤ_refl (stamp q))))
          | inr g ↦ elim g [
            | inl before ↦ let e : nat_lt (end_of (step_at calls p)) (step_at calls q).begin ≡ true = lt-ltb _ _ (before_less (step_at calls p) (step_at calls q) (ended p a) before) in let m = n.1 in cc
            | inr before ↦ omega (arith, before_less (step_at calls q) (step_at calls p) (ended q b) before, begun p q s.1 b, closed q b)
          ]
        ]

    module _ (apart : (r : ℕ) → 0 < r → r < length calls → parts (step_at calls (at O r)) (step_at calls (at O (r + 1))) ≡ true) where
      side : (r : ℕ) → 0 < r → r < length calls → stamp (at O r) ≡ stamp (at O (r + 1)) → end_of (step_at calls (at O r)) < (step_at calls (at O (r + 1))).begin
      side r some within same = elim (either_true (int_lt (stamp (at O r)) (stamp (at O (r + 1)))) (nat_lt (end_of (step_at calls (at O r))) (step_at calls (at O (r + 1))).begin) (apart r some within)) [
        | inl less ↦
            let P : ℤ → Type 0 = λ z. stamp (at O r) <ℤ z in
            absurd (<ℤ_irrefl (subst P (sym same) (lt_z_yes (T_from_true _ less))))
        | inr before ↦ ltb-true _ _ before
      ]

      -- those of one stamp, however far
      chain : (k r : ℕ) → 0 < r → r + suc k ≤ length calls → stamp (at O r) ≡ stamp (at O (r + suc k)) → end_of (step_at calls (at O r)) < (step_at calls (at O (r + suc k))).begin
      chain zero r some within same =
          let e : r + 1 ≡ r + suc zero = omega arith in
          let P : ℕ → Type 0 = λ s. stamp (at O r) ≡ stamp (at O s) → end_of (step_at calls (at O r)) < (step_at calls (at O s)).begin in
          subst P e (side r some (omega (arith, within))) same
      chain (suc k) r some within same =
          let m = r + suc k in
          let e : m + 1 ≡ r + suc (suc k) = omega arith in
          let low : stamp (at O r) ≤ℤ stamp (at O m) = by_stamp_least calls (at O r) (at O m) (inr (steps r m some (omega arith) (omega (arith, within)))) in
          let high : stamp (at O m) ≤ℤ stamp (at O (r + suc (suc k))) = by_stamp_least calls (at O m) (at O (r + suc (suc k))) (inr (steps m (r + suc (suc k)) (omega arith) (omega arith) within)) in
          let P : ℤ → Type 0 = λ z. stamp (at O m) ≤ℤ z in
          let mid : stamp (at O r) ≡ stamp (at O m) = antisym (stamp (at O r)) (stamp (at O m)) low (subst P (sym same) high) in
          let first = chain k r some (omega (arith, within)) mid in
          let Q : ℕ → Type 0 = λ s. stamp (at O m) ≡ stamp (at O s) → end_of (step_at calls (at O m)) < (step_at calls (at O s)).begin in
          let last = subst Q e (side m (omega arith) (omega (arith, within))) (sym mid ∙ same) in
          omega (arith, first, last, closed (at O m) (placed m (omega arith) (omega (arith, within))).0)

      before : (p q : ℕ) → p < q → q < length calls → stamp p ≡ stamp q → end_of (step_at calls p) < (step_at calls q).begin
      before p q less within same =
          let a = ranked.placed p (omega (arith, less, within)) in
          let b = ranked.placed q within in
          let up : at K p < at K q = (elim (which (at K p) (at K q)) [
            | inl h ↦ h
            | inr g ↦ elim g [
              | inl e ↦ absurd (omega (arith, less, same_place (length calls) K (ByStamp calls) O ranked p q (omega (arith, less, within)) within e))
              | inr h ↦ elim (ranked.sorted q p within (omega (arith, less, within)) h) [
                | inl below ↦ let P : ℤ → Type 0 = λ z. stamp q <ℤ z in absurd (<ℤ_irrefl (subst P same below))
                | inr s ↦ absurd (omega (arith, s.1, less))
              ]
            ]
          ]) in
          let k = at K q - suc (at K p) in
          let e : at K p + suc k ≡ at K q = omega (arith, up) in
          let P : ℕ → Type 0 = λ s. s ≤ length calls → stamp (at O (at K p)) ≡ stamp (at O s) → end_of (step_at calls (at O (at K p))) < (step_at calls (at O s)).begin in
          let Q : ℕ → Type 0 = λ x. stamp x ≡ stamp (at O (at K q)) → end_of (step_at calls x) < (step_at calls (at O (at K q))).begin in
          let R : ℕ → Type 0 = λ y. stamp p ≡ stamp y → end_of (step_at calls p) < (step_at calls y).begin in
          subst R b.2 (subst Q a.2 (subst P e (chain k (at K p) a.0) b.1)) same

      pub all_apart : AllPairs (AreApart (pos 0)) calls
      all_apart i j d less within =
          let P : StepOf → Type 0 = λ x. AreApart (pos 0) x (get_or calls j d) in
          let Q : StepOf → Type 0 = λ y. AreApart (pos 0) (step_at calls i) y in
          subst P (same i (omega (arith, less, within))) (subst Q (same j within) (by_lt_z (stamp i) (stamp j)
          (λ h. inl (λ near. let R : ℤ → Type 0 = λ z. stamp i <ℤ z in <ℤ_irrefl (subst R (sym (one_as_near (stamp i) (stamp j) near)) h)))
          (λ h. by_lt_z (stamp j) (stamp i)
          (λ g. inl (λ near. let R : ℤ → Type 0 = λ z. stamp j <ℤ z in <ℤ_irrefl (subst R (one_as_near (stamp i) (stamp j) near) g)))
          (λ g. inr (inl (less_before (step_at calls i) (step_at calls j) (ended i (omega (arith, less, within))) (before i j less within (antisym (stamp i) (stamp j) g h))))))))
        where
          same : (k : ℕ) → k < length calls → step_at calls k ≡ get_or calls k d
          same k below = sym (get_or_from_slice_get calls k (step_at calls k) d (slice_get-get_or calls k no_step below))

pub more_parts : (calls : List StepOf) (O : List ℕ) (rank : ℕ) → ((r : ℕ) → 0 < r → r < rank → parts (step_at calls (at O r)) (step_at calls (at O (r + 1))) ≡ true)
    → parts (step_at calls (at O rank)) (step_at calls (at O (rank + 1))) ≡ true → (r : ℕ) → 0 < r → r < rank + 1 → parts (step_at calls (at O r)) (step_at calls (at O (r + 1))) ≡ true
more_parts calls O rank before here r some within = elim (which r rank) [
  | inl h ↦ before r some h
  | inr g ↦ elim g [
    | inl e ↦ let P : ℕ → Type 0 = λ k. parts (step_at calls (at O k)) (step_at calls (at O (k + 1))) ≡ true in subst P (sym e) here
    | inr h ↦ absurd (omega (arith, h, within))
  ]
]
