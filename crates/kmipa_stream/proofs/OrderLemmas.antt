-- A transcript ahead whose messages are all inside, and an order of its calls.
use Rattle.std.proofs.Common.{◌≡◌, ◌<◌, ◌≤◌, inl, inr, ℕ, suc, ℤ, ◌<ℤ◌, Bool, true, false, List, map, length, Contains, Option, Some, None, slice_get, refl, sym, ap, ◌∙◌, subst, arith}
use Rattle.std.specs.Prelude.{int_lt}
use Rattle.std.specs.Int.Signed.{clash_ℤ}
use Rattle.std.proofs.lemmas.Int.{ints}
use Rattle.std.proofs.lemmas.Bool.Decides.{nat_tests}
use Rattle.std.proofs.lemmas.Option.{slice_get_within}
use Rattle.kmipa_record.specs.Marks.{MarkOf, AreRecorded}
use Rattle.kmipa_record.specs.Witnesses.{TurnOf, turn_of}
use Rattle.kmipa_record.specs.declared.turn.Turn.{Turn}
use Rattle.kmipa_check.specs.Calls.{CallOf, AreCalls, IsRecorded, IsEnded, has_ended, is_open, HasEnd, HasBegin}
use Rattle.kmipa_check.specs.Grants.{GrantsOf}
use Rattle.kmipa_check.specs.Late.{is_below}
use Rattle.kmipa_check.specs.Orders.{NamesAt, NamesBefore, IsFormed, IsOrder}
use Rattle.kmipa_check.specs.Deciding.{Decided}
use Rattle.kmipa_check.specs.Runs.{EndsAhead}
use Rattle.kmipa_check.specs.Steps.{StepOf, IsStep}
use Rattle.kmipa_check.specs.Verdicts.{IsLate, RunsBack}
use Rattle.kmipa_check.proofs.PlaceLemmas.{contains_at, at_contains, mapped_from, some_at, below_suc, at_within}
use Rattle.kmipa_check.proofs.OnceLemmas.{IsOnce, once_pairs}
use Rattle.kmipa_check.proofs.CheckLemmas.{calls_once}
use Rattle.kmipa_check.proofs.RecordedLemmas.{begun_has, same_recorded, same_end, recorded_at}
use Rattle.kmipa_check.proofs.WholeOrderLemmas.{number_of, same_call, one_step_lem}
use Rattle.kmipa_stream.specs.Ahead.{IsAhead}
use Rattle.kmipa_stream.specs.Steps.{IsLastMoment, is_less}
use Rattle.kmipa_stream.specs.Waiting.{IsFirstWaiting}
use Rattle.kmipa_stream.proofs.AheadLemmas.{end_ahead, end_behind}
use Rattle.kmipa_stream.proofs.SeeingLemmas.{has_begun}

module _ (all : List MarkOf) (r : AreRecorded all) (calls : List CallOf) (are : AreCalls all calls) where
  pub its_numbers : IsOnce (map number_of calls)
  its_numbers = once_pairs (map number_of calls) (calls_once all calls r are)

  -- a call of a number that begins is there
  pub begun_call : (n : ℤ) (begin : ℕ) (asked : List ℕ) → HasBegin all n begin asked → (place : ℕ) × (c : CallOf) × (slice_get calls place ≡ Some c) × (c.number ≡ n)
  begun_call n begin asked h =
      let b = begun_has all begin n h.client asked h.there in
      let P : List ℤ → Type 0 = λ l. slice_get l b.0 ≡ Some n in
      let m = mapped_from number_of calls b.0 n (subst P (sym are.numbers) b.1) in
      (b.0, m.0, m.1, m.2)

  -- and a call that is recorded is it
  pub is_contained : (c : CallOf) → IsRecorded all c → Contains calls c
  is_contained c x =
      let b = begun_call c.number c.begin x.asked x.carried in
      let same : b.1 ≡ c = same_recorded all b.1 c r (recorded_at all calls b.0 b.1 are b.2) x b.3 in
      let P : CallOf → Type 0 = λ d. slice_get calls b.0 ≡ Some d in
      contains_at calls b.0 c (subst P same b.2)

  pub recorded_in : (c : CallOf) → Contains calls c → IsRecorded all c
  recorded_in c has = let p = at_contains calls c has in recorded_at all calls p.0 c are p.1

  -- where a call ends in the marks it ends as one of the calls
  pub ended_so : (c : CallOf) (end : ℕ) → IsEnded all c → c.end ≡ Some end → (answered : List ℕ) × HasEnd all c.number end answered
  ended_so c end (has_ended e a x h says close is) at =
      let same : e ≡ end = cc in
      let P : ℕ → Type 0 = λ p. HasEnd all c.number p a in
      (a, subst P same h)
  ended_so c end (is_open none close is) at = absurd cc

  pub end_noted : (c : CallOf) (end : ℕ) (answered : List ℕ) → HasEnd all c.number end answered → IsEnded all c → c.end ≡ Some end
  end_noted c end answered h (has_ended e a x k says close is) = close ∙ ap Some (same_end all c.number e end a answered r k h).0
  end_noted c end answered h (is_open none close is) = absurd (none end answered h)

  module _ (g : GrantsOf) (turns : List TurnOf) (order : List StepOf) (o : IsOrder g calls turns order) where
    -- a turn that is formed made the order's step
    pub same_step : (place : ℕ) (s : StepOf) → IsFormed g calls turns place s → slice_get order place ≡ Some s
    same_step place s f =
        let u = some_at order place (omega (arith, slice_get_within turns place f.turn f.there, o.counted)) in
        let h = o.formed place u.0 u.1 in
        let here = f.there in
        let there = h.there in
        let turn : h.turn ≡ f.turn = cc in
        let a = at_contains calls f.call f.known in
        let b = at_contains calls h.call h.known in
        let call : h.call ≡ f.call = same_call calls its_numbers b.0 a.0 h.call f.call b.1 a.1 (sym h.step.named ∙ ap (λ (t : TurnOf). t.call) turn ∙ f.step.named) in
        let P : CallOf → Type 0 = λ c. IsStep g c h.turn u.0 in
        let Q : TurnOf → Type 0 = λ t. IsStep g f.call t u.0 in
        u.1 ∙ ap Some (one_step_lem g f.call f.turn u.0 s (subst Q turn (subst P call h.step)) f.step)

    step_end : (place : ℕ) (d : StepOf) (f : IsFormed g calls turns place d) → d.end ≡ f.call.end
    step_end place d f = ap (λ (x : StepOf). x.end) f.step.is

    module _ (closed : Bool) (marks : List MarkOf) (a : IsAhead closed marks all) (k : ℕ) (s : StepOf) (there : slice_get order k ≡ Some s) (within : s.begin ≤ length marks) where
      -- a late step has a call before it that ended and was not named
      late_waits : IsLate order k s → (n : ℤ) × (end : ℕ) × (answered : List ℕ) × HasEnd marks n end answered × (end < s.begin) × (NamesBefore turns (suc k) n → ⊥)
      late_waits late =
          let d = late.1 in
          let f = o.formed late.0 d late.3 in
          by d f d.end refl late.4
        where
          by : (d : StepOf) (f : IsFormed g calls turns late.0 d) (e : Option ℕ) → d.end ≡ e → EndsAhead e s.begin
              → (n : ℤ) × (end : ℕ) × (answered : List ℕ) × HasEnd marks n end answered × (end < s.begin) × (NamesBefore turns (suc k) n → ⊥)
          by d f None is before = absurd before
          by d f (Some end) is before =
              let h = ended_so f.call end (recorded_in f.call f.known).ended (sym (step_end late.0 d f) ∙ is) in (
                f.call.number,
                end,
                h.0,
                end_behind closed marks all a f.call.number end h.0 (omega (arith, before, within)) h.1,
                before,
                (λ named.
                    let P : ℤ → Type 0 = λ n. NamesAt turns named.0 n in
                    f.first (named.0, omega (arith, named.1, late.2), subst P (sym f.step.named) named.2)),
              )

      -- and where such a call ended it is late
      waits_late : (n : ℤ) (end : ℕ) (answered : List ℕ) → HasEnd marks n end answered → end < s.begin → (NamesBefore turns (suc k) n → ⊥) → IsLate order k s
      waits_late n end answered h before waits =
          let h' = end_ahead closed marks all a n end answered h in
          let b = has_begun all n end answered r h' in
          let c = begun_call n b.0 b.1 b.2 in
          let P : ℤ → Type 0 = λ m. HasEnd all m end answered in
          let its = end_noted c.1 end answered (subst P (sym c.3) h') (recorded_at all calls c.0 c.1 are c.2).ended in
          let named = o.all c.1 end (contains_at calls c.0 c.1 c.2) its in
          let u = some_at order named.0 (omega (arith, slice_get_within turns named.0 named.1.0 named.1.1, o.counted)) in
          let f = o.formed named.0 u.0 u.1 in
          let here = f.there in
          let at = named.1.1 in
          let turn : f.turn ≡ named.1.0 = cc in
          let p = at_contains calls f.call f.known in
          let call : f.call ≡ c.1 = same_call calls its_numbers p.0 c.0 f.call c.1 p.1 c.2 (sym f.step.named ∙ ap (λ (t : TurnOf). t.call) turn ∙ named.1.2) in
          let ends : u.0.end ≡ Some end = step_end named.0 u.0 f ∙ ap (λ (d : CallOf). d.end) call ∙ its in
          let Q : Option ℕ → Type 0 = λ e. EndsAhead e s.begin in (
            named.0,
            u.0,
            elim (Rattle.kmipa_check.proofs.PlaceLemmas.apart k named.0) [
              | inl x ↦ x
              | inr x ↦ absurd (waits (named.0, (let y : named.0 ≤ k = elim x [ inl y ↦ omega (arith, y) | inr y ↦ omega (arith, y) ] in omega (arith, y)), (named.1.0, named.1.1, named.1.2 ∙ c.3)))
            ],
            u.1,
            subst Q (sym ends) before,
          )

      pub late_decided : (list : List Turn) → turns ≡ map turn_of list → (waiting : Option ℕ) → IsFirstWaiting marks list (suc k) waiting → Decided (is_below waiting s.begin) (IsLate order k s)
      late_decided list e waiting first = by waiting first (is_below waiting s.begin) refl
        where
          named_so : (n : ℤ) → NamesBefore (map turn_of list) (suc k) n → NamesBefore turns (suc k) n
          named_so n x = let P : List TurnOf → Type 0 = λ ts. NamesBefore ts (suc k) n in subst P (sym e) x

          so_named : (n : ℤ) → NamesBefore turns (suc k) n → NamesBefore (map turn_of list) (suc k) n
          so_named n x = let P : List TurnOf → Type 0 = λ ts. NamesBefore ts (suc k) n in subst P e x

          by : (waiting : Option ℕ) → IsFirstWaiting marks list (suc k) waiting → (b : Bool) → is_below waiting s.begin ≡ b → Decided b (IsLate order k s)
          by None first true is = absurd cc
          by None first false is = λ late. let w = late_waits late in w.5 (named_so w.0 (first s.begin w.0 w.1 w.2 w.3 w.4))
          by (Some place) first true is =
              let below : place < s.begin = grind (arith, nat_tests) in
              waits_late first.1.0 place first.1.1 first.1.2 below (λ x. first.1.3 (so_named first.1.0 x))
          by (Some place) first false is = λ late.
              let w = late_waits late in
              let above : s.begin ≤ place = grind (arith, nat_tests) in
              w.5 (named_so w.0 (first.0 w.0 w.1 w.2 w.3 (omega (arith, above, w.4))))

-- a moment that runs back
less_decided : (x y : ℤ) → Decided (int_lt x y) (x <ℤ y)
less_decided x y = by (int_lt x y) refl
  where
    by : (less : Bool) → int_lt x y ≡ less → Decided less (x <ℤ y)
    by true e = omega (arith, ints)
    by false e = λ h. clash_ℤ h (omega (arith, ints))

pub back_decided : (order : List StepOf) (k : ℕ) (s : StepOf) (last : Option ℤ) → IsLastMoment order k last → Decided (is_less s.response.stamp last) (RunsBack order k s)
back_decided order k s None none = λ back. omega (arith, none, back.2)
back_decided order k s (Some moment) at = by (int_lt s.response.stamp moment) refl (less_decided s.response.stamp moment)
  where
    by : (b : Bool) → int_lt s.response.stamp moment ≡ b → Decided b (s.response.stamp <ℤ moment) → Decided b (RunsBack order k s)
    by true e less = let P : ℤ → Type 0 = λ z. s.response.stamp <ℤ z in (at.0, at.1, at.2, at.3, subst P (sym at.4) less)
    by false e least = λ back.
        let place : back.0 ≡ at.0 = omega (arith, back.2, at.2) in
        let P : ℕ → Type 0 = λ n. slice_get order n ≡ Some back.1 in
        let there = subst P place back.3 in
        let here = at.3 in
        let same : back.1 ≡ at.1 = cc in
        let Q : ℤ → Type 0 = λ z. s.response.stamp <ℤ z in
        least (subst Q (ap (λ (d : StepOf). d.response.stamp) same ∙ at.4) back.4)
