-- The next calls, and the calls taken.
use Rattle.std.proofs.Common.{◌≡◌, ◌≤◌, ◌⊎◌, inl, inr, ℕ, ◌≤ℤ◌, List, [], ◌∷◌, ◌++◌, length, Some, slice_get, Contains, refl, sym, ap, ◌∙◌, subst, arith}
use Rattle.std.specs.Prelude.{IsPermutation}
use Rattle.std.specs.Int.Signed.{≤ℤ_refl}
use Rattle.std.proofs.lemmas.List.{length-append}
use Rattle.std.proofs.lemmas.List.Elements.{Contains-append_cases, Contains-append_left, Contains-append_right}
use Rattle.std.proofs.lemmas.List.Sorted.{IsPermutation-sym, Contains-permutation}
use Rattle.std.proofs.lemmas.Option.{get_or_from_slice_get}
use Rattle.kmipa_check.specs.Steps.{StepOf}
use Rattle.kmipa_check.specs.Runs.{Before, IsPlaced}
use Rattle.kmipa_check.proofs.PlaceLemmas.{contains_at, at_contains}
use Rattle.kmipa_orders.proofs.PermutationLemmas.{IsOnce, at_most, permuted}
use Rattle.kmipa_orders.specs.Next.{IsNext}
use Rattle.kmipa_orders.specs.Progress.{AreTimed}
use Rattle.kmipa_orders.specs.Taken.{no_step, step_at, so_far, AreNext}
use Rattle.kmipa_orders.proofs.PlaceLemmas.{one_place, one_cases, has_head, fresh, pairs_behind, pairs_pushed}

module _ (calls : List StepOf) where
  pub call_of_next : (taken : List ℕ) (p : ℕ) (n : IsNext calls taken p) → step_at calls p ≡ n.call
  call_of_next taken p n = get_or_from_slice_get calls p n.call no_step n.there

  pub length_so_far : (taken : List ℕ) → length (so_far calls taken) ≡ length taken
  length_so_far [] = refl
  length_so_far (p ∷ taken) = omega (arith, length-append (so_far calls taken) (step_at calls p ∷ []), length_so_far taken)

  -- each of the calls taken stands at a place taken
  pub place_taken : (taken : List ℕ) (x : StepOf) → AreNext calls taken → Contains (so_far calls taken) x → (p : ℕ) × Contains taken p × (slice_get calls p ≡ Some x)
  place_taken [] x n (k, below, is) = absurd (omega (arith, below))
  place_taken (p ∷ taken) x n h = elim (Contains-append_cases (so_far calls taken) (step_at calls p ∷ []) x h) [
    | inl l ↦ let q = place_taken taken x n.1 l in (q.0, Contains-append_right (p ∷ []) taken q.0 q.1, q.2)
    | inr r ↦ elim (one_cases (step_at calls p) x [] r) [
      | inl e ↦ (p, has_head p taken, n.0.there ∙ ap Some (sym (call_of_next taken p n.0) ∙ e))
      | inr t ↦ absurd (omega (arith, t.1))
    ]
  ]

  -- and at each place taken stands one of them
  pub call_taken : (taken : List ℕ) (p : ℕ) (x : StepOf) → Contains taken p → slice_get calls p ≡ Some x → Contains (so_far calls taken) x
  call_taken [] p x h at = absurd (omega (arith, h.1))
  call_taken (q ∷ taken) p x h at = elim (one_cases q p taken h) [
    | inl e ↦
        let P : ℕ → Type 0 = λ k. slice_get calls k ≡ Some x in
        let P2 : StepOf → Type 0 = λ c. Contains (so_far calls taken ++ c ∷ []) x in
        subst P2 (sym (get_or_from_slice_get calls q x no_step (subst P (sym e) at))) (Contains-append_right (so_far calls taken) (x ∷ []) x (has_head x []))
    | inr t ↦ Contains-append_left (so_far calls taken) (step_at calls q ∷ []) x (call_taken taken p x t at)
  ]

  -- a call taken lets each that is left stand after it
  pub lets_left : (taken : List ℕ) (place : ℕ) (c x : StepOf) → AreNext calls taken → (Contains taken place → ⊥) → slice_get calls place ≡ Some c → Contains (so_far calls taken) x
      → (x.response.stamp ≤ℤ c.response.stamp) × (Before c x → ⊥)
  lets_left [] place c x n left at h = absurd (omega (arith, h.1))
  lets_left (p ∷ taken) place c x n left at h = elim (Contains-append_cases (so_far calls taken) (step_at calls p ∷ []) x h) [
    | inl l ↦ lets_left taken place c x n.1 (λ k. left (Contains-append_right (p ∷ []) taken place k)) at l
    | inr r ↦ elim (one_cases (step_at calls p) x [] r) [
      | inl e ↦
          let P : StepOf → Type 0 = λ y. (y.response.stamp ≤ℤ c.response.stamp) × (Before c y → ⊥) in
          let other : Contains taken place → ⊥ = λ k. left (Contains-append_right (p ∷ []) taken place k) in
          subst P (sym (call_of_next taken p n.0) ∙ e) (n.0.least place c at other, n.0.first place c at other)
      | inr t ↦ absurd (omega (arith, t.1))
    ]
  ]

  -- the calls taken are placed
  pub placed_so_far : (taken : List ℕ) → AreNext calls taken → IsPlaced (so_far calls taken)
  placed_so_far [] n = record { kept = λ i j d below within. absurd (omega (arith, within)); stamped = λ i j d below within. absurd (omega (arith, within)) }
  placed_so_far (p ∷ taken) n =
      let rest = placed_so_far taken n.1 in
      let c = step_at calls p in
      let P : StepOf → Type 0 = λ y. slice_get calls p ≡ Some y in
      let at : slice_get calls p ≡ Some c = subst P (sym (call_of_next taken p n.0)) n.0.there in
      record {
        kept = pairs_pushed (λ (a b : StepOf). ¬ (Before b a)) (so_far calls taken) c rest.kept (λ x h. (lets_left taken p c x n.1 n.0.left at h).1);
        stamped = pairs_pushed (λ (a b : StepOf). a.response.stamp ≤ℤ b.response.stamp) (so_far calls taken) c rest.stamped (λ x h. (lets_left taken p c x n.1 n.0.left at h).0);
      }

  module _ (once : IsOnce calls) where
    -- no call is taken twice
    pub once_so_far : (taken : List ℕ) → AreNext calls taken → IsOnce (so_far calls taken)
    once_so_far [] n = tt
    once_so_far (p ∷ taken) n =
        pushed (so_far calls taken) (step_at calls p) (once_so_far taken n.1)
        (λ h. let q = place_taken taken (step_at calls p) n.1 h in
        let P : StepOf → Type 0 = λ y. slice_get calls p ≡ Some y in
        let at : slice_get calls p ≡ Some (step_at calls p) = subst P (sym (call_of_next taken p n.0)) n.0.there in
        let Q : ℕ → Type 0 = λ k. Contains taken k in
        n.0.left (subst Q (one_place calls q.0 p (step_at calls p) once q.2 at) q.1))
      where
        pushed : (xs : List StepOf) (c : StepOf) → IsOnce xs → (Contains xs c → ⊥) → IsOnce (xs ++ c ∷ [])
        pushed [] c once fresh = ((λ h. omega (arith, h.1)), tt)
        pushed (x ∷ xs) c once fresh = (
          (λ h. elim (Contains-append_cases xs (c ∷ []) x h) [
            | inl l ↦ once.0 l
            | inr r ↦ elim (one_cases c x [] r) [
              | inl e ↦ let P : StepOf → Type 0 = λ y. Contains (y ∷ xs) c in fresh (subst P e (has_head c xs))
              | inr t ↦ omega (arith, t.1)
            ]
          ]),
          pushed xs c once.1 (λ h. fresh (Contains-append_right (x ∷ []) xs c h)),
        )

    -- all calls taken are an order
    pub permuted_so_far : (taken : List ℕ) → AreNext calls taken → length calls ≤ length taken → IsPermutation calls (so_far calls taken)
    permuted_so_far taken n all =
        IsPermutation-sym (so_far calls taken) calls
        (permuted (so_far calls taken) calls (once_so_far taken n) (λ x h. let q = place_taken taken x n h in contains_at calls q.0 x q.2) (omega (arith, all, length_so_far taken)))

    pub few_so_far : (taken : List ℕ) → AreNext calls taken → length taken ≤ length calls
    few_so_far taken n =
        omega (arith, at_most (so_far calls taken) calls (once_so_far taken n) (λ x h. let q = place_taken taken x n h in contains_at calls q.0 x q.2), length_so_far taken)

    -- the first call of an order after those taken is a next one
    pub next_of_order : (taken : List ℕ) (c : StepOf) (rest : List StepOf) → AreTimed calls → AreNext calls taken
        → IsPermutation calls (so_far calls taken ++ c ∷ rest) → IsPlaced (so_far calls taken ++ c ∷ rest) → (p : ℕ) × (slice_get calls p ≡ Some c) × IsNext calls taken p
    next_of_order taken c rest timed n p placed =
        let order = so_far calls taken ++ c ∷ rest in
        let has : Contains calls c = Contains-permutation order calls c (IsPermutation-sym calls order p) (Contains-append_right (so_far calls taken) (c ∷ rest) c (has_head c rest)) in
        let at = at_contains calls c has in (
          at.0,
          at.1,
          record {
            call = c;
            there = at.1;
            left = λ h. fresh calls (so_far calls taken) rest c once p (call_taken taken at.0 c h at.1);
            least = λ other d here not. elim (of other d here not) [
              | inl e ↦ let P : StepOf → Type 0 = λ y. c.response.stamp ≤ℤ y.response.stamp in subst P e (≤ℤ_refl c.response.stamp)
              | inr t ↦ pairs_behind (λ (a b : StepOf). a.response.stamp ≤ℤ b.response.stamp) (so_far calls taken) rest c d placed.stamped t
            ];
            first = λ other d here not before. elim (of other d here not) [
              | inl e ↦ let P : StepOf → Type 0 = λ y. Before y c in timed c has (subst P (sym e) before)
              | inr t ↦ pairs_behind (λ (a b : StepOf). ¬ (Before b a)) (so_far calls taken) rest c d placed.kept t before
            ];
          },
        )
      where
        of : (other : ℕ) (d : StepOf) → slice_get calls other ≡ Some d → (Contains taken other → ⊥) → (c ≡ d) ⊎ Contains rest d
        of other d here not =
            elim (Contains-append_cases (so_far calls taken) (c ∷ rest) d (Contains-permutation calls (so_far calls taken ++ c ∷ rest) d p (contains_at calls other d here))) [
              | inl l ↦
                  let q = place_taken taken d n l in
                  let Q : ℕ → Type 0 = λ k. Contains taken k in
                  absurd (not (subst Q (one_place calls q.0 other d once q.2 here) q.1))
              | inr r ↦ one_cases c d rest r
            ]
