-- A turn more of a replay.
use Rattle.std.proofs.Common.{◌≡◌, ◌<◌, ◌≤◌, ◌⊎◌, inl, inr, ℕ, ◌+◌, ℤ, Bool, List, [], ◌∷◌, ◌++◌, map, length, Contains, Option, Some, None, slice_get, Result, Ok, refl, sym, ap, ◌∙◌, subst, arith, add-one}
use Rattle.kmipa_msgs.specs.Messages.{RulesOf}
use Rattle.kmipa_msgs.specs.declared.rules.Unjudged.{Unjudged}
use Rattle.kmipa_store.specs.Ledger.{Meaning}
use Rattle.kmipa_record.specs.Declarations.{DeclarationOf}
use Rattle.kmipa_record.specs.Marks.{MarkOf}
use Rattle.kmipa_record.specs.Witnesses.{TurnOf, turn_of}
use Rattle.kmipa_record.specs.declared.turn.Turn.{Turn}
use Rattle.kmipa_check.specs.Calls.{CallOf, AreCalls, IsRecorded}
use Rattle.kmipa_check.specs.Grants.{GrantsOf, grants_declared}
use Rattle.kmipa_check.specs.Late.{is_below}
use Rattle.kmipa_check.specs.Orders.{IsFormed, IsOrder, GivenFault, twice, unfit, WitnessFaultAt, in_turn}
use Rattle.kmipa_check.specs.Deciding.{Decided}
use Rattle.kmipa_check.specs.Replays.{TurnTaken, TurnTold}
use Rattle.kmipa_check.specs.Runs.{rules_declared}
use Rattle.kmipa_check.specs.Stamps.{IsAnsweredAt, by_mark, by_turn}
use Rattle.kmipa_check.specs.Steps.{StepOf, IsStep, IsAnswered, recorded, given}
use Rattle.kmipa_check.specs.Verdicts.{IsLate, RunsBack}
use Rattle.kmipa_check.specs.declared.fault.CheckFault.{CheckFault}
use Rattle.kmipa_check.specs.declared.fault.WitnessFault.{WitnessFault}
use Rattle.kmipa_check.specs.declared.fault.WitnessKind.{WitnessKind}
use Rattle.kmipa_check.specs.declared.fault.WitnessKind.TheVariants.{Twice}
use Rattle.kmipa_check.specs.declared.verdict.Refused.{Refused}
use Rattle.kmipa_check.proofs.PlaceLemmas.{below_suc, contains_at, get_at}
use Rattle.kmipa_stream.specs.Ahead.{IsAhead}
use Rattle.kmipa_stream.specs.Replaying.{counts_under, FormAhead, GoesOnAhead, RefusesAhead, AnswersAhead, FaultyAhead, FindsSo, FormsAhead, RefusesTurnAhead, IsRecordedAhead}
use Rattle.kmipa_stream.specs.declared.counts.Counts.{Counts}
use Rattle.kmipa_stream.specs.declared.replaying.Finding.{Finding}
use Rattle.kmipa_stream.specs.declared.replaying.Replay.{Replay}
use Rattle.kmipa_stream.specs.declared.replaying.Finding.TheVariants.{Possible, No, Faulty}
use Rattle.kmipa_stream.specs.Steps.{is_less}
use Rattle.kmipa_stream.specs.Waiting.{IsPassed, IsFirstWaiting}
use Rattle.kmipa_stream.proofs.CountingLemmas.{counted_more}
use Rattle.kmipa_stream.proofs.OrderLemmas.{is_contained, same_step, late_decided, back_decided}

-- when the response of a step was given
pub step_answered : (g : GrantsOf) (all : List MarkOf) (turns : List TurnOf) (c : CallOf) (t : TurnOf) (s : StepOf) → IsRecorded all c → Contains turns t → IsStep g c t s → IsAnsweredAt all turns s.number s.stamp
step_answered g all turns c t s x has i = by i.answered
  where
    number : c.number ≡ s.number
    number = sym (ap (λ (u : StepOf). u.number) i.is)

    stamp : i.response.stamp ≡ s.stamp
    stamp = sym i.filled.stamp ∙ sym (ap (λ (u : StepOf). u.stamp) i.is)

    by : IsAnswered c t i.response → IsAnsweredAt all turns s.number s.stamp
    by (recorded had none) = by_mark c i.response x number had stamp
    by (given bytes unended some says) = by_turn c t bytes i.response x number unended has (i.named ∙ number) some says stamp

module _ (closed : Bool) (marks : List MarkOf) (turns : List Turn) (declared : DeclarationOf) (k : ℕ) where
  -- the turn makes its step in each transcript ahead
  pub forms_ahead : (turn : TurnOf) (c : CallOf) (s : StepOf) → slice_get (map turn_of turns) k ≡ Some turn → (IsPassed turns k turn.call → ⊥) → IsRecordedAhead closed marks c → IsStep (grants_declared declared) c turn s
      → FormsAhead closed marks turns declared k s
  forms_ahead turn c s there first x i = λ all calls a are. record {
    turn = turn;
    there = there;
    first = first;
    call = c;
    known = is_contained all a.recorded calls are c (x all a);
    step = i;
  }

  pub answers_ahead : (turn : TurnOf) (c : CallOf) (s : StepOf) → slice_get (map turn_of turns) k ≡ Some turn → IsRecordedAhead closed marks c → IsStep (grants_declared declared) c turn s
      → AnswersAhead closed marks turns s.number s.stamp
  answers_ahead turn c s there x i = λ all a. step_answered (grants_declared declared) all (map turn_of turns) c turn s (x all a) (contains_at (map turn_of turns) k turn there) i

  -- or it is faulty in each
  pub unfit_ahead : (turn : TurnOf) (c : CallOf) (kind : WitnessKind) → slice_get (map turn_of turns) k ≡ Some turn → turn.call ≡ c.number → (IsPassed turns k turn.call → ⊥) → IsRecordedAhead closed marks c
      → GivenFault (grants_declared declared) c turn kind → RefusesTurnAhead closed marks turns declared k kind
  unfit_ahead turn c kind there named first x fault = λ all calls a are. unfit c turn there named (is_contained all a.recorded calls are c (x all a)) first fault

  pub twice_ahead : (turn : TurnOf) → slice_get (map turn_of turns) k ≡ Some turn → IsPassed turns k turn.call → FormAhead closed marks turns declared k → RefusesTurnAhead closed marks turns declared k Twice
  twice_ahead turn there passed formed = λ all calls a are.
      let f = formed all calls a are passed.0 passed.1 in
      let at = passed.2.1 in
      let here = f.1.there in
      let same : f.1.turn ≡ passed.2.0 = cc in
      let number : f.1.call.number ≡ turn.call = sym f.1.step.named ∙ ap (λ (t : TurnOf). t.call) same ∙ passed.2.2 in
      twice turn.call (turn, there, refl) (f.1.call, f.1.known, number) passed refl

  -- what a fault of the next turn comes to
  pub faulty_ahead : (kind : WitnessKind) (f : WitnessFault) → f ≡ record { at = k + 1; kind = kind } → FormAhead closed marks turns declared k → RefusesTurnAhead closed marks turns declared k kind
      → FaultyAhead closed marks turns declared f
  faulty_ahead kind f is formed refuses = λ all calls a are.
      let P : WitnessFault → Type 0 = λ x. WitnessFaultAt (grants_declared declared) calls (map turn_of turns) x.at x.kind in
      subst P (sym is) (in_turn k (formed all calls a are) (refuses all calls a are) refl)

  module _ (s : StepOf) (forms : FormsAhead closed marks turns declared k s) where
    pub form_more : FormAhead closed marks turns declared k → FormAhead closed marks turns declared (k + 1)
    form_more before = λ all calls a are place below. by all calls a are place (below_suc place k (omega (arith, below)))
      where
        by : (all : List MarkOf) (calls : List CallOf) (a : IsAhead closed marks all) (are : AreCalls all calls) (place : ℕ) → (place < k) ⊎ (place ≡ k)
            → (u : StepOf) × IsFormed (grants_declared declared) calls (map turn_of turns) place u
        by all calls a are place (inl h) = before all calls a are place h
        by all calls a are place (inr e) = let P : ℕ → Type 0 = λ p. IsFormed (grants_declared declared) calls (map turn_of turns) p s in (s, subst P (sym e) (forms all calls a are))

    module _ (rules : RulesOf) (last : Option ℤ) (counts : Counts) (m n : Meaning) (waiting : Option ℕ) (late back : Bool) (result : Result (Option Refused) CheckFault)
        (within : s.begin ≤ length marks) (rules_is : rules ≡ rules_declared declared) (first : IsFirstWaiting marks turns (k + 1) waiting) (late_is : late ≡ is_below waiting s.begin)
        (back_is : back ≡ is_less s.response.stamp last) (goes : GoesOnAhead closed marks turns declared k last counts m)
        (taken : (order : List StepOf) → slice_get order k ≡ Some s → Decided late (IsLate order k s) → Decided back (RunsBack order k s) → TurnTaken rules order k m result n) where
      -- what it comes to in each transcript ahead, and in each order
      told_ahead : (all : List MarkOf) (calls : List CallOf) (order : List StepOf) → IsAhead closed marks all → AreCalls all calls → IsOrder (grants_declared declared) calls (map turn_of turns) order
          → (slice_get order k ≡ Some s) × TurnTold declared order k result n
      told_ahead all calls order a are o =
          let g = goes all calls order a are o in
          let there = same_step all a.recorded calls are (grants_declared declared) (map turn_of turns) order o k s (forms all calls a are) in
          let P : ℕ → Type 0 = λ c. IsFirstWaiting marks turns c waiting in
          let f = subst P (add-one k) first in
          let Q : Bool → Type 0 = λ b. Decided b (IsLate order k s) in
          let R : Bool → Type 0 = λ b. Decided b (RunsBack order k s) in
          let l = late_decided all a.recorded calls are (grants_declared declared) (map turn_of turns) order o closed marks a k s there within turns refl waiting f in
          (there, taken order there (subst Q (sym late_is) l) (subst R (sym back_is) (back_decided order k s last g.stamped)) declared rules_is g.replayed)

      pub goes_on_more : (more : Counts) → ((u : Unjudged) (steps : List StepOf) → counts ≡ counts_under u steps → more ≡ counts_under u (steps ++ s ∷ [])) → result ≡ Ok None
          → GoesOnAhead closed marks turns declared (k + 1) (Some s.response.stamp) more n
      goes_on_more more counted is = λ all calls order a are o.
          let t = told_ahead all calls order a are o in
          let P : Result (Option Refused) CheckFault → Type 0 = λ x. TurnTold declared order k x n in
          record {
            replayed = subst P is t.1;
            stamped = (k, s, refl, t.0, refl);
            counted = counted_more declared.settings.unjudged order k s counts more t.0 (goes all calls order a are o).counted (counted declared.settings.unjudged);
          }

      pub refuses_more : (refused : Refused) → result ≡ Ok (Some refused) → RefusesAhead closed marks turns declared refused
      refuses_more refused is = λ all calls order a are o.
          let t = told_ahead all calls order a are o in
          let P : Result (Option Refused) CheckFault → Type 0 = λ x. TurnTold declared order k x n in
          subst P is t.1

-- what was found of turns that are no longer taken stays
pub finds_still : (closed : Bool) (marks : List MarkOf) (turns : List Turn) (declared : DeclarationOf) (k j : ℕ) (last other : Option ℤ) (counts : Counts) (m n : Meaning) (f : Finding) → (f ≡ Possible → ⊥)
    → FindsSo closed marks turns declared k last counts m f → FindsSo closed marks turns declared j other counts n f
finds_still closed marks turns declared k j last other counts m n Possible not h = absurd (not refl)
finds_still closed marks turns declared k j last other counts m n (No refused stamp) not h = h
finds_still closed marks turns declared k j last other counts m n (Faulty f) not h = h

-- the turn at a place, as the witness says it
pub turn_there : (r : Replay) (turns : List Turn) (turn : Turn) → r.turns.now ≡ turns → slice_get r.turns.now r.formed ≡ Some turn → slice_get (map turn_of turns) r.formed ≡ Some (turn_of turn)
turn_there r turns turn same at =
    let P : List Turn → Type 0 = λ ts. slice_get ts r.formed ≡ Some turn in
    get_at turn_of turns r.formed turn (subst P same at)
