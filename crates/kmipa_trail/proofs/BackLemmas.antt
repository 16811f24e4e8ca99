-- The moments of the first turns, and whether one more runs back.
use Rattle.std.proofs.Common.{◌≡◌, ◌<◌, ◌⊎◌, inl, inr, ℕ, suc, ℤ, ◌<ℤ◌, ◌≤ℤ◌, Bool, true, false, List, Option, Some, None, slice_get, refl, sym, ◌∙◌, subst, arith}
use Rattle.std.specs.Prelude.{int_lt}
use Rattle.std.specs.Int.Signed.{clash_ℤ, <ℤ-≤ℤ_trans, ≤ℤ_refl}
use Rattle.std.proofs.lemmas.Int.{by_lt_z}
use Rattle.kmipa_check.specs.Deciding.{Decided}
use Rattle.kmipa_check.proofs.PlaceLemmas.{below_suc}
use Rattle.kmipa_check.proofs.ReplayLemmas.{over}
use Rattle.kmipa_check.proofs.TurnLemmas.{less_decided_of}
use Rattle.kmipa_turns.specs.Steps.{StepOf, moment_of}
use Rattle.kmipa_trail.specs.Back.{HasMoment, IsLatest, is_back, later}
use Rattle.kmipa_trail.specs.Placing.{RunsBack}

pub latest_none : (order : List StepOf) → IsLatest order 0 None
latest_none order moment h = absurd (omega (arith, h.2))

-- one turn more
module _ (order : List StepOf) (n : ℕ) (s : StepOf) (there : slice_get order n ≡ Some s) where
  less_yes : (moment last : ℤ) → int_lt moment last ≡ true → moment <ℤ last
  less_yes moment last test = let P : Bool → Type 0 = λ b. Decided b (moment <ℤ last) in subst P test (less_decided_of moment last moment last refl refl)

  less_no : (moment last : ℤ) → int_lt moment last ≡ false → last ≤ℤ moment
  less_no moment last test =
      let P : Bool → Type 0 = λ b. Decided b (moment <ℤ last) in
      let never = subst P test (less_decided_of moment last moment last refl refl) in
      by_lt_z moment last (λ h. absurd (never h)) (λ h. h)

  -- it runs back where the test says so
  pub back_yes : (last : Option ℤ) → IsLatest order n last → is_back last (moment_of s) ≡ true → RunsBack order n s
  back_yes last latest test = by last (moment_of s) refl latest test
    where
      by : (last moment : Option ℤ) → moment_of s ≡ moment → IsLatest order n last → is_back last moment ≡ true → RunsBack order n s
      by None moment is latest test = absurd cc
      by (Some last) None is latest test = absurd cc
      by (Some last) (Some moment) is latest test = record {
        moment = moment;
        has = is;
        earlier = latest.0.0;
        ahead = latest.0.2;
        other = latest.0.1;
        there = latest.0.3;
        last = last;
        had = latest.0.4;
        less = less_yes moment last test;
      }

  pub back_no : (last : Option ℤ) → IsLatest order n last → is_back last (moment_of s) ≡ false → RunsBack order n s → ⊥
  back_no last latest test back = by last (moment_of s) refl latest test
    where
      greater : (last moment : ℤ) → moment_of s ≡ Some moment → back.last ≤ℤ last → last ≤ℤ moment → ⊥
      greater last moment is under not =
          let has = back.has in
          let same : back.moment ≡ moment = cc in
          let P : ℤ → Type 0 = λ z. z <ℤ back.last in
          clash_ℤ (<ℤ-≤ℤ_trans (subst P same back.less) under) not

      by : (last moment : Option ℤ) → moment_of s ≡ moment → IsLatest order n last → is_back last moment ≡ false → ⊥
      by None moment is latest test = latest back.last (back.earlier, back.other, back.ahead, back.there, back.had)
      by (Some last) None is latest test = let has = back.has in absurd cc
      by (Some last) (Some moment) is latest test =
          greater last moment is (latest.1 back.last (back.earlier, back.other, back.ahead, back.there, back.had)) (less_no moment last test)

  -- the moment of one of the turns is its own, or one of those before
  moment_there : (moment : ℤ) → HasMoment order (suc n) moment → HasMoment order n moment ⊎ (moment_of s ≡ Some moment)
  moment_there moment h = by (below_suc h.0 n h.2)
    where
      by : (h.0 < n) ⊎ (h.0 ≡ n) → HasMoment order n moment ⊎ (moment_of s ≡ Some moment)
      by (inl b) = inl (h.0, h.1, b, h.3, h.4)
      by (inr e) =
          let P : ℕ → Type 0 = λ k. slice_get order k ≡ Some h.1 in
          let at = subst P e h.3 in
          let same : h.1 ≡ s = cc in
          let Q : StepOf → Type 0 = λ x. moment_of x ≡ Some moment in
          inr (subst Q same h.4)

  still_there : (moment : ℤ) → HasMoment order n moment → HasMoment order (suc n) moment
  still_there moment h = (h.0, h.1, omega (arith, h.2), h.3, h.4)

  -- and then this is the greatest
  pub latest_more : (last : Option ℤ) → IsLatest order n last → is_back last (moment_of s) ≡ false → IsLatest order (suc n) (later last (moment_of s))
  latest_more last latest test = by last (moment_of s) refl latest test
    where
      here : (moment : ℤ) → moment_of s ≡ Some moment → HasMoment order (suc n) moment
      here moment is = (n, s, omega arith, there, is)

      itself : (moment m : ℤ) → moment_of s ≡ Some moment → moment_of s ≡ Some m → m ≤ℤ moment
      itself moment m is e =
          let same : m ≡ moment = cc in
          let P : ℤ → Type 0 = λ z. m ≤ℤ z in
          subst P same (≤ℤ_refl m)

      by : (last moment : Option ℤ) → moment_of s ≡ moment → IsLatest order n last → is_back last moment ≡ false → IsLatest order (suc n) (later last moment)
      by None None is latest test = λ m h. none m (moment_there m h)
        where
          none : (m : ℤ) → HasMoment order n m ⊎ (moment_of s ≡ Some m) → ⊥
          none m (inl g) = latest m g
          none m (inr e) = let clash : None ≡ Some m = sym is ∙ e in absurd cc
      by (Some last) None is latest test = (still_there last latest.0, λ m h. least m (moment_there m h))
        where
          least : (m : ℤ) → HasMoment order n m ⊎ (moment_of s ≡ Some m) → m ≤ℤ last
          least m (inl g) = latest.1 m g
          least m (inr e) = let clash : None ≡ Some m = sym is ∙ e in absurd cc
      by None (Some moment) is latest test = (here moment is, λ m h. least m (moment_there m h))
        where
          least : (m : ℤ) → HasMoment order n m ⊎ (moment_of s ≡ Some m) → m ≤ℤ moment
          least m (inl g) = absurd (latest m g)
          least m (inr e) = itself moment m is e
      by (Some last) (Some moment) is latest test = (here moment is, λ m h. least m (moment_there m h))
        where
          least : (m : ℤ) → HasMoment order n m ⊎ (moment_of s ≡ Some m) → m ≤ℤ moment
          least m (inl g) = over m last moment (latest.1 m g) (less_no moment last test)
          least m (inr e) = itself moment m is e
