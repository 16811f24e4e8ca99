-- Calls that are apart from each that began after them.
use Rattle.std.proofs.Common.{◌≡◌, ◌<◌, ◌⊎◌, inl, inr, ℕ, suc, ◌+◌, ◌+ℤ◌, ℤ, true, false, nat_lt, List, length, get_or, sym, ap, ◌∙◌, subst, arith}
use Rattle.std.specs.Prelude.{AllPairs}
use Rattle.std.proofs.lemmas.Bool.{lt-ltb, ltb-true}
use Rattle.std.proofs.lemmas.Option.{get_or_from_slice_get, slice_get-get_or}
use Rattle.kmipa_check.specs.Moments.{IsNear}
use Rattle.kmipa_check.specs.Steps.{StepOf}
use Rattle.kmipa_orders.specs.Far.{IsFarFromLater}
use Rattle.kmipa_orders.specs.Plain.{AreApart}
use Rattle.kmipa_orders.specs.Progress.{AreBegun}
use Rattle.kmipa_orders.specs.Ranks.{AreClosed, AreEnded, end_of}
use Rattle.kmipa_orders.specs.Taken.{no_step, step_at}
use Rattle.kmipa_orders.proofs.LinksLemmas.{which}
use Rattle.kmipa_orders.proofs.RankLemmas.{before_less, less_before}

module _ (tolerance : ℤ) (calls : List StepOf) where
  -- a call is apart from the later ones ahead of one
  abbrev pub ApartUpTo : ℕ → ℕ → Type 0
  ApartUpTo first second = (q : ℕ) → first < q → q < second → AreApart tolerance (step_at calls first) (step_at calls q)

  -- and from one more
  pub one_more : (first second : ℕ) → ApartUpTo first second → AreApart tolerance (step_at calls first) (step_at calls second) → ApartUpTo first (second + 1)
  one_more first second before here q later below = elim (which q second) [
    | inl h ↦ before q later h
    | inr g ↦ elim g [
      | inl e ↦ let P : ℕ → Type 0 = λ k. AreApart tolerance (step_at calls first) (step_at calls k) in subst P (sym e) here
      | inr h ↦ absurd (omega (arith, h, below))
    ]
  ]

  module _ (begun : AreBegun calls) (closed : AreClosed calls) (ended : AreEnded calls) where
    -- it ended before one began, and so before all behind that
    pub ended_first : (first second : ℕ) → first < second → second < length calls → nat_lt (end_of (step_at calls first)) (step_at calls second).begin ≡ true
        → ApartUpTo first second → IsFarFromLater tolerance calls first
    ended_first first second less within is before q later inside = elim (which q second) [
      | inl h ↦ before q later h
      | inr g ↦ elim g [
        | inl e ↦
            let P : ℕ → Type 0 = λ k. AreApart tolerance (step_at calls first) (step_at calls k) in
            subst P (sym e) (inr (inl (less_before (step_at calls first) (step_at calls second) (ended first (omega (arith, less, within))) ahead)))
        | inr h ↦
            inr (inl (less_before (step_at calls first) (step_at calls q) (ended first (omega (arith, less, within))) (omega (arith, ahead, begun second q h inside))))
      ]
    ]
      where
        ahead : end_of (step_at calls first) < (step_at calls second).begin
        ahead = ltb-true _ _ is

    -- it was still open, and the stamps are near
    pub open_and_near : (first second : ℕ) → first < second → second < length calls → nat_lt (end_of (step_at calls first)) (step_at calls second).begin ≡ false
        → IsNear (tolerance +ℤ tolerance) (step_at calls first).response.stamp (step_at calls second).response.stamp → IsFarFromLater tolerance calls first → ⊥
    open_and_near first second less within is near far = elim (far second less within) [
      | inl apart ↦ apart near
      | inr g ↦ elim g [
        | inl before ↦
            let e : nat_lt (end_of (step_at calls first)) (step_at calls second).begin ≡ true = lt-ltb _ _ (before_less (step_at calls first) (step_at calls second) (ended first (omega (arith, less, within))) before) in
            absurd cc
        | inr before ↦
            omega (arith, before_less (step_at calls second) (step_at calls first) (ended second within) before, begun first second less within, closed second within)
      ]
    ]

  -- where each is, all are apart
  pub all_far : ((first : ℕ) → first < length calls → IsFarFromLater tolerance calls first) → AllPairs (AreApart tolerance) calls
  all_far far i j d less within =
      let P : StepOf → Type 0 = λ x. AreApart tolerance x (get_or calls j d) in
      let Q : StepOf → Type 0 = λ y. AreApart tolerance (step_at calls i) y in
      subst P (same i (omega (arith, less, within))) (subst Q (same j within) (far i (omega (arith, less, within)) j less within))
    where
      same : (k : ℕ) → k < length calls → step_at calls k ≡ get_or calls k d
      same k below = sym (get_or_from_slice_get calls k (step_at calls k) d (slice_get-get_or calls k no_step below))

  -- and where all are, each is
  pub far_each : AllPairs (AreApart tolerance) calls → (first : ℕ) → IsFarFromLater tolerance calls first
  far_each all first q later within = all first q no_step later within
