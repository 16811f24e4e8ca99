-- Which calls can't be next, looked through from the first.
use Rattle.std.proofs.Common.{◌≡◌, ◌<◌, ◌≤◌, ◌⊎◌, inl, inr, ℕ, ◌+◌, List, length, Some, None, Option, slice_get, refl, sym, subst, arith}
use Rattle.std.proofs.lemmas.Option.{slice_get_within}
use Rattle.kmipa_check.proofs.PlaceLemmas.{apart, below_suc}
use Rattle.kmipa_check.specs.Runs.{EndsAhead}
use Rattle.kmipa_turns.specs.Steps.{StepOf, step_of}
use Rattle.kmipa_trail.specs.Placing.{Before}
use Rattle.kmipa_findings.specs.Boards.{IsBoard}
use Rattle.kmipa_findings.specs.Exhausting.{AreCovered, AreRisingTrials, AreRisingUpTo, EndedBefore, IsBareStep, IsCovered, is_taken, waits, late, IsLeftBy, IsStepAt}
use Rattle.kmipa_findings.specs.declared.board.Board.{Board}
use Rattle.kmipa_findings.specs.declared.trial.Trial.{Trial}
use Rattle.kmipa_findings.specs.declared.trial.Way.{Way}
use Rattle.kmipa_findings.specs.declared.trial.Way.TheVariants.{Bare, Waits}

-- ---- the order of begin marks

module _ (trials : List Trial) where
  pub rising_none : AreRisingUpTo trials 0 0
  rising_none = record { each = λ place a below i. absurd (omega (arith, below)); two = λ place later a b under below i j. absurd (omega (arith, below)) }

  pub rising_next : (n most more : ℕ) → AreRisingUpTo trials n most → ((b : StepOf) → IsStepAt trials n b → most ≤ b.begin) → most ≤ more
      → ((b : StepOf) → IsStepAt trials n b → b.begin ≤ more) → AreRisingUpTo trials (n + 1) more
  rising_next n most more r from up own = record {
    each = λ place a below i. by place a i (below_suc place n (omega (arith, below)));
    two = λ place later a b under below i j. two place later a b under i j (below_suc later n (omega (arith, below)));
  }
    where
      by : (place : ℕ) (a : StepOf) → IsStepAt trials place a → (place < n) ⊎ (place ≡ n) → a.begin ≤ more
      by place a i (inl less) = omega (arith, r.each place a less i, up)
      by place a i (inr e) = let P : ℕ → Type 0 = λ k. IsStepAt trials k a in own a (subst P e i)

      two : (place later : ℕ) (a b : StepOf) → place < later → IsStepAt trials place a → IsStepAt trials later b → (later < n) ⊎ (later ≡ n) → a.begin ≤ b.begin
      two place later a b under i j (inl less) = r.two place later a b under less i j
      two place later a b under i j (inr e) =
          let P : ℕ → Type 0 = λ k. IsStepAt trials k b in
          omega (arith, r.each place a (omega (arith, under, e)) i, from b (subst P e j))

  pub rising_all : (n most : ℕ) → length trials ≤ n → AreRisingUpTo trials n most → AreRisingTrials trials
  rising_all n most all r place later a b under i j = r.two place later a b under (omega (arith, all, slice_get_within trials later j.trial j.there)) i j

-- ---- calls that can't be next

-- of the first places
abbrev pub AreCoveredBelow : List Trial → List ℕ → List ℕ → ℕ → Type 0
AreCoveredBelow trials taken refuted count = (place : ℕ) (t : Trial) → place < count → slice_get trials place ≡ Some t → IsCovered trials taken refuted place

module _ (trials : List Trial) (taken refuted : List ℕ) where
  pub covered_first : (count : ℕ) (b : Board) → IsBoard count taken b → AreCoveredBelow trials taken refuted b.low
  covered_first count b board place t below there = is_taken (board.flagged place (board.below place below))

  pub covered_next : (n : ℕ) → AreCoveredBelow trials taken refuted n → IsCovered trials taken refuted n → AreCoveredBelow trials taken refuted (n + 1)
  covered_next n so_far here place t below there = by (below_suc place n (omega (arith, below)))
    where
      by : (place < n) ⊎ (place ≡ n) → IsCovered trials taken refuted place
      by (inl less) = so_far place t less there
      by (inr e) = let P : ℕ → Type 0 = λ k. IsCovered trials taken refuted k in subst P (sym e) here

  pub covered_all : (n : ℕ) → length trials ≤ n → AreCoveredBelow trials taken refuted n → AreCovered trials taken refuted
  covered_all n all so_far place t there = so_far place t (omega (arith, all, slice_get_within trials place t there)) there

  -- a call that ended before one began ended before each that begins behind it
  pub covered_past : (n : ℕ) → AreRisingTrials trials → EndedBefore trials taken n → AreCoveredBelow trials taken refuted n → AreCovered trials taken refuted
  covered_past n rising ended so_far place t there = by (apart place n)
    where
      l : IsLeftBy Before trials taken n
      l = ended.0

      further : (end : Option ℕ) (from to : ℕ) → EndsAhead end from → from ≤ to → EndsAhead end to
      further None from to e more = absurd e
      further (Some x) from to e more = omega (arith, e, more)

      behind : n ≤ place → (s : StepOf) → IsStepAt trials place s → l.b.begin ≤ s.begin → IsCovered trials taken refuted place
      behind from s i no_later = late (
        record {
          other = l.other;
          left = l.left;
          differs = λ e. omega (arith, e, ended.1, from);
          a = l.a;
          at = l.at;
          b = s;
          here = i;
          ahead = further l.a.end l.b.begin s.begin l.ahead no_later;
        },
        omega (arith, ended.1, from),
      )

      ways : n ≤ place → ((s : StepOf) → IsStepAt trials place s → l.b.begin ≤ s.begin) → (w : Way) → t.way ≡ w → IsCovered trials taken refuted place
      ways from no_later (Bare step) is =
          let B : Way → Type 0 = λ w. IsBareStep w (step_of step) in
          let i : IsStepAt trials place (step_of step) = record { trial = t; there = there; bare = subst B (sym is) refl } in
          behind from (step_of step) i (no_later (step_of step) i)
      ways from no_later (Waits said) is = waits (λ s i. none s i)
        where
          none : (s : StepOf) → IsStepAt trials place s → ⊥
          none s i =
              let found = i.there in
              let same : i.trial ≡ t = cc in
              let B : Way → Type 0 = λ w. IsBareStep w s in
              let T : Trial → Type 0 = λ x. IsBareStep x.way s in
              subst B is (subst T same i.bare)

      by : (place < n) ⊎ ((n < place) ⊎ (place ≡ n)) → IsCovered trials taken refuted place
      by (inl less) = so_far place t less there
      by (inr (inl more)) = ways (omega (arith, more)) (λ s i. rising n place l.b s more l.here i) t.way refl
      by (inr (inr e)) =
          let P : ℕ → Type 0 = λ k. IsCovered trials taken refuted k in
          subst P (sym e) (late ended)
