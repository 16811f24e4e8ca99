-- Calls that leave a search no choice, looked through from the last.
use Rattle.std.proofs.Common.{◌≡◌, ◌<◌, ◌≤◌, ◌⊎◌, inl, inr, ℕ, ◌+◌, ◌-◌, ℤ, List, map, length, get_or, Option, Some, None, slice_get, refl, sym, subst, arith}
use Rattle.std.specs.Prelude.{IsSome}
use Rattle.std.proofs.lemmas.Option.{slice_get_read, slice_get_within}
use Rattle.kmipa_check.specs.Runs.{EndsAhead}
use Rattle.kmipa_check.proofs.PlaceLemmas.{apart, get_at, mapped_at, mapped_from}
use Rattle.kmipa_turns.specs.Recorded.{RecordedOf, recorded_of}
use Rattle.kmipa_turns.specs.Steps.{StepOf, step_of, taken_of}
use Rattle.kmipa_turns.specs.declared.recorded.Recorded.{Recorded}
use Rattle.kmipa_turns.specs.declared.step.Step.{Step}
use Rattle.kmipa_findings.specs.Choices.{AreAllApart, AreApart, AreFar, AreRising, HasOrder, HaveEnded, HaveOrder, IsApartBehind, IsApartUpTo}
use Rattle.kmipa_findings.proofs.EachLemmas.{EachFrom}

-- ---- each call

abbrev pub IsDone : Recorded → Type 0
IsDone c = IsSome c.end

abbrev pub IsOrdered : Step → Type 0
IsOrdered s = HasOrder (taken_of s.taken)

pub all_ended : (calls : List Recorded) (from : ℕ) → from ≡ 0 → EachFrom IsDone calls from → HaveEnded (map recorded_of calls)
all_ended calls from none each place c there =
    let of = mapped_from recorded_of calls place c there in
    let P : RecordedOf → Type 0 = λ x. IsSome x.end in
    subst P of.2 (each place of.0 (omega (arith, none)) of.1)

pub all_ordered : (steps : List Step) (from : ℕ) → from ≡ 0 → EachFrom IsOrdered steps from → HaveOrder (map step_of steps)
all_ordered steps from none each place s there =
    let of = mapped_from step_of steps place s there in
    let P : StepOf → Type 0 = λ x. HasOrder x.taken in
    subst P of.2 (each place of.0 (omega (arith, none)) of.1)

-- ---- each two, from a place on

abbrev pub TwoFrom : (StepOf → StepOf → Type 0) → List StepOf → ℕ → Type 0
TwoFrom P steps from = (place later : ℕ) (a b : StepOf) → from ≤ place → place < later → slice_get steps place ≡ Some a → slice_get steps later ≡ Some b → P a b

pub two_past : (P : StepOf → StepOf → Type 0) (steps : List StepOf) (from : ℕ) → length steps ≤ from → TwoFrom P steps from
two_past P steps from all place later a b after behind at there = absurd (omega (arith, all, after, slice_get_within steps place a at))

pub two_more : (P : StepOf → StepOf → Type 0) (steps : List StepOf) (p : ℕ) (c : StepOf) → 0 < p → slice_get steps (p - 1) ≡ Some c
    → ((later : ℕ) (b : StepOf) → p - 1 < later → slice_get steps later ≡ Some b → P c b) → TwoFrom P steps p → TwoFrom P steps (p - 1)
two_more P steps p c some here this two place later a b from behind at there = by (apart (p - 1) place)
  where
    by : (p - 1 < place) ⊎ ((place < p - 1) ⊎ (p - 1 ≡ place)) → P a b
    by (inl less) = two place later a b (omega (arith, some, less)) behind at there
    by (inr (inl less)) = absurd (omega (arith, from, less))
    by (inr (inr e)) =
        let A : ℕ → Type 0 = λ n. slice_get steps n ≡ Some c in
        let mine : slice_get steps place ≡ Some c = subst A e here in
        let same : c ≡ a = cc in
        let Q : StepOf → Type 0 = λ x. P x b in
        subst Q same (this later b (omega (arith, e, behind)) there)

-- ---- the order of begin marks

abbrev pub IsNoLater : StepOf → StepOf → Type 0
IsNoLater a b = a.begin ≤ b.begin

abbrev pub BeginFrom : List StepOf → ℕ → ℕ → Type 0
BeginFrom steps from mark = (later : ℕ) (b : StepOf) → from ≤ later → slice_get steps later ≡ Some b → mark ≤ b.begin

pub begin_past : (steps : List StepOf) (from mark : ℕ) → length steps ≤ from → BeginFrom steps from mark
begin_past steps from mark all later b after there = absurd (omega (arith, all, after, slice_get_within steps later b there))

-- one call more, which begins no later than those behind it
pub begin_more : (steps : List StepOf) (p least : ℕ) (c : StepOf) → 0 < p → slice_get steps (p - 1) ≡ Some c → c.begin ≤ least → BeginFrom steps p least → BeginFrom steps (p - 1) c.begin
begin_more steps p least c some here low behind later b from there = by (apart (p - 1) later)
  where
    by : (p - 1 < later) ⊎ ((later < p - 1) ⊎ (p - 1 ≡ later)) → c.begin ≤ b.begin
    by (inl less) = omega (arith, low, behind later b (omega (arith, some, less)) there)
    by (inr (inl less)) = absurd (omega (arith, from, less))
    by (inr (inr e)) =
        let A : ℕ → Type 0 = λ n. slice_get steps n ≡ Some c in
        let mine : slice_get steps later ≡ Some c = subst A e here in
        let same : c ≡ b = cc in
        let Q : StepOf → Type 0 = λ x. c.begin ≤ x.begin in
        subst Q same (omega arith)

pub rising_more : (steps : List StepOf) (p least : ℕ) (c : StepOf) → 0 < p → slice_get steps (p - 1) ≡ Some c → c.begin ≤ least → BeginFrom steps p least → TwoFrom IsNoLater steps p
    → TwoFrom IsNoLater steps (p - 1)
rising_more steps p least c some here low behind two =
    two_more IsNoLater steps p c some here (λ later b less there. omega (arith, low, behind later b (omega (arith, some, less)) there)) two

pub all_rising : (steps : List StepOf) (from : ℕ) → from ≡ 0 → TwoFrom IsNoLater steps from → AreRising steps
all_rising steps from none two place later a b behind at there = two place later a b (omega (arith, none)) behind at there

-- ---- calls that are apart

pub all_apart : (tolerance : ℤ) (steps : List StepOf) (from : ℕ) → from ≡ 0 → TwoFrom (AreApart tolerance) steps from → AreAllApart tolerance steps
all_apart tolerance steps from none two place later a b behind at there = two place later a b (omega (arith, none)) behind at there

pub apart_none : (tolerance : ℤ) (steps : List StepOf) (place count : ℕ) (a : StepOf) → count ≤ place + 1 → IsApartUpTo tolerance steps place count a
apart_none tolerance steps place count a few later b behind below there = absurd (omega (arith, few, behind, below))

pub apart_more : (tolerance : ℤ) (steps : List StepOf) (place count : ℕ) (a c : StepOf) → slice_get steps count ≡ Some c → AreFar tolerance a.stamp c.stamp
    → IsApartUpTo tolerance steps place count a → IsApartUpTo tolerance steps place (count + 1) a
apart_more tolerance steps place count a c here far ahead later b behind below there = by (apart later count)
  where
    by : (later < count) ⊎ ((count < later) ⊎ (later ≡ count)) → AreApart tolerance a b
    by (inl less) = ahead later b behind less there
    by (inr (inl less)) = absurd (omega (arith, less, below))
    by (inr (inr e)) =
        let A : ℕ → Type 0 = λ n. slice_get steps n ≡ Some c in
        let mine : slice_get steps later ≡ Some c = subst A (sym e) here in
        let same : c ≡ b = cc in
        let Q : StepOf → Type 0 = λ x. AreApart tolerance a x in
        subst Q same (inl far)

-- from one that began behind its end on, all did
ends_ahead : (e : Option ℕ) (m n : ℕ) → m ≤ n → EndsAhead e m → EndsAhead e n
ends_ahead None m n less h = h
ends_ahead (Some end) m n less h = omega (arith, less, h)

pub apart_from : (tolerance : ℤ) (steps : List StepOf) (place count : ℕ) (a c : StepOf) → AreRising steps → slice_get steps count ≡ Some c → EndsAhead a.end c.begin
    → IsApartUpTo tolerance steps place count a → IsApartBehind tolerance steps place a
apart_from tolerance steps place count a c rising here before ahead later b behind there = by (apart later count)
  where
    by : (later < count) ⊎ ((count < later) ⊎ (later ≡ count)) → AreApart tolerance a b
    by (inl less) = ahead later b behind less there
    by (inr (inl more)) = inr (inl (ends_ahead a.end c.begin b.begin (rising count later c b more here there) before))
    by (inr (inr e)) =
        let A : ℕ → Type 0 = λ n. slice_get steps n ≡ Some c in
        let mine : slice_get steps later ≡ Some c = subst A (sym e) here in
        let same : c ≡ b = cc in
        let Q : StepOf → Type 0 = λ x. AreApart tolerance a x in
        subst Q same (inr (inl before))

pub apart_all : (tolerance : ℤ) (steps : List StepOf) (place count : ℕ) (a : StepOf) → length steps ≤ count → IsApartUpTo tolerance steps place count a → IsApartBehind tolerance steps place a
apart_all tolerance steps place count a all ahead later b behind there = ahead later b behind (omega (arith, all, slice_get_within steps later b there)) there
