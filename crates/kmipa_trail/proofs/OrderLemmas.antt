-- The order of a witness: its turns one by one, and the calls that none names.
use Rattle.std.proofs.Common.{◌≡◌, ◌<◌, ◌≤◌, ◌⊎◌, inl, inr, ◌==◌, ℕ, ◌+◌, ℤ, true, false, List, [], ◌∷◌, ◌++◌, map, length, get_or, Contains, Option, Some, None, Result, Ok, Err, MatchResult, slice_get, refl, sym, ap, ◌∙◌, subst, arith}
use Rattle.std.proofs.lemmas.List.{length-map, length-append}
use Rattle.std.proofs.lemmas.Bool.Decides.{nat_tests}
use Rattle.std.proofs.lemmas.Option.{slice_get_within}
use Rattle.kmipa_record.specs.declared.turn.Turn.{Turn}
use Rattle.kmipa_record.specs.Witnesses.{TurnOf, turn_of}
use Rattle.kmipa_turns.specs.declared.recorded.Recorded.{Recorded}
use Rattle.kmipa_check.specs.declared.numbers.FirstPlaces.{FirstPlaces}
use Rattle.kmipa_check.specs.declared.fault.StepFault.{StepFault}
use Rattle.kmipa_check.specs.declared.fault.StepFault.TheVariants.{Unfit, Memory}
use Rattle.kmipa_check.specs.declared.fault.WitnessKind.{WitnessKind}
use Rattle.kmipa_check.specs.declared.fault.WitnessKind.TheVariants.{UnknownCall, Twice}
use Rattle.kmipa_turns.specs.declared.step.Step.{Step}
use Rattle.kmipa_turns.specs.Recorded.{RecordedOf, recorded_of}
use Rattle.kmipa_turns.specs.Steps.{step_of, StepOf, IsStep}
use Rattle.kmipa_check.specs.Grants.{GrantsOf}
use Rattle.kmipa_check.specs.Orders.{NamesAt, NamesBefore}
use Rattle.kmipa_turns.specs.Faults.{GivenFault, Refuses}
use Rattle.kmipa_trail.specs.Ordering.{AreFormed, OrderFault, TurnRefused, fault_at}
use Rattle.kmipa_trail.specs.Orders.{HasCall, IsFormed, AreFormedBelow, TurnFault, unknown, twice, unfit, in_turn}
use Rattle.kmipa_check.specs.Numbers.{place_in, IsFirst, StandsFirst, Indexes, is_noted}
use Rattle.kmipa_check.proofs.PlaceLemmas.{below_suc, mapped_at, mapped_from, contains_at, at_contains, get_at, pushed_at, some_at, at_within}

-- one turn, by where its number first stands among the calls and among the turns
module _ (g : GrantsOf) (calls : List Recorded) (turns : List Turn) (known named : FirstPlaces) (knows : Indexes (map (λ (c : Recorded). Some c.number) calls) known)
    (names : Indexes (map (λ (t : Turn). Some t.call) turns) named) (place : ℕ) (turn : Turn) (below : place < length turns) (is : turn ≡ get_or turns place turn) where
  names_at : NamesAt (map turn_of turns) place turn.call
  names_at = (turn_of turn, mapped_at turn_of turns place turn below is, refl)

  names_here : slice_get (map (λ (t : Turn). Some t.call) turns) place ≡ Some (Some turn.call)
  names_here = mapped_at (λ (t : Turn). Some t.call) turns place turn below is

  -- the turn at a place names a number
  names_from : (other : ℕ) (number : ℤ) → NamesAt (map turn_of turns) other number → slice_get (map (λ (t : Turn). Some t.call) turns) other ≡ Some (Some number)
  names_from other number at =
      let m = mapped_from turn_of turns other at.0 at.1 in
      let e : m.0.call ≡ number = ap (λ (t : TurnOf). t.call) m.2 ∙ at.2 in
      get_at (λ (t : Turn). Some t.call) turns other m.0 m.1 ∙ ap (λ (z : ℤ). Some (Some z)) e

  pub turn_unknown : place_in known turn.call ≡ None → TurnFault g (map recorded_of calls) (map turn_of turns) place UnknownCall
  turn_unknown none = unknown turn.call names_at (λ has. no_call has) refl
    where
      no_call : HasCall (map recorded_of calls) turn.call → ⊥
      no_call has =
          let p = at_contains (map recorded_of calls) has.0 has.1 in
          let m = mapped_from recorded_of calls p.0 has.0 p.1 in
          let e : m.0.number ≡ turn.call = ap (λ (c : RecordedOf). c.number) m.2 ∙ has.2 in
          let at : slice_get (map (λ (c : Recorded). Some c.number) calls) p.0 ≡ Some (Some turn.call) = get_at (λ (c : Recorded). Some c.number) calls p.0 m.0 m.1 ∙ ap (λ (z : ℤ). Some (Some z)) e in
          let P : Option ℕ → Type 0 = λ v. StandsFirst (map (λ (c : Recorded). Some c.number) calls) (length (map (λ (c : Recorded). Some c.number) calls)) turn.call v in
          subst P none (knows turn.call) p.0 (slice_get_within (map (λ (c : Recorded). Some c.number) calls) p.0 (Some turn.call) at) at

  -- where the number is known
  module _ (at : ℕ) (noted : place_in known turn.call ≡ Some at) where
    found : (at < length (map (λ (c : Recorded). Some c.number) calls)) × IsFirst (map (λ (c : Recorded). Some c.number) calls) turn.call at
    found =
        let P : Option ℕ → Type 0 = λ v. StandsFirst (map (λ (c : Recorded). Some c.number) calls) (length (map (λ (c : Recorded). Some c.number) calls)) turn.call v in
        subst P noted (knows turn.call)

    pub call_within : at < length calls
    call_within = omega (arith, found.0, length-map calls (λ (c : Recorded). Some c.number))

    has_call : HasCall (map recorded_of calls) turn.call
    has_call =
        let m = mapped_from (λ (c : Recorded). Some c.number) calls at (Some turn.call) found.1.there in
        let e : m.0.number ≡ turn.call = cc in
        (recorded_of m.0, contains_at (map recorded_of calls) at (recorded_of m.0) (get_at recorded_of calls at m.0 m.1), e)

    pub turn_twice : is_noted (place_in named turn.call) place ≡ false → TurnFault g (map recorded_of calls) (map turn_of turns) place Twice
    turn_twice not = twice turn.call names_at has_call (by (place_in named turn.call) (names turn.call) not) refl
      where
        by : (v : Option ℕ) → StandsFirst (map (λ (t : Turn). Some t.call) turns) (length (map (λ (t : Turn). Some t.call) turns)) turn.call v → is_noted v place ≡ false
            → NamesBefore (map turn_of turns) place turn.call
        by None h never = absurd (h place (slice_get_within (map (λ (t : Turn). Some t.call) turns) place (Some turn.call) names_here) names_here)
        by (Some q) h never =
            let m = mapped_from (λ (t : Turn). Some t.call) turns q (Some turn.call) h.1.there in
            let e : m.0.call ≡ turn.call = cc in
            (q, earlier q h.1.first never, (turn_of m.0, get_at turn_of turns q m.0 m.1, e))
          where
            earlier : (q : ℕ) → ((earlier : ℕ) → earlier < q → slice_get (map (λ (t : Turn). Some t.call) turns) earlier ≡ Some (Some turn.call) → ⊥) → (q == place) ≡ false → q < place
            earlier q first never = under q (λ l. first place l names_here) never
              where
                under : (q : ℕ) → (place < q → ⊥) → (q == place) ≡ false → q < place
                under q a b = grind (arith, nat_tests)

    first_named : is_noted (place_in named turn.call) place ≡ true → NamesBefore (map turn_of turns) place turn.call → ⊥
    first_named here_first before = by (place_in named turn.call) (names turn.call) here_first
      where
        by : (v : Option ℕ) → StandsFirst (map (λ (t : Turn). Some t.call) turns) (length (map (λ (t : Turn). Some t.call) turns)) turn.call v → is_noted v place ≡ true → ⊥
        by None h e = absurd cc
        by (Some q) h e =
            let same : q ≡ place = grind (arith, nat_tests) in
            h.1.first before.0 (omega (arith, before.1, same)) (names_from before.0 turn.call before.2)

    -- and the call stands there
    module _ (call : Recorded) (there : call ≡ get_or calls at call) where
      its_number : call.number ≡ turn.call
      its_number =
          let here = mapped_at (λ (c : Recorded). Some c.number) calls at call call_within there in
          let that = found.1.there in
          cc

      known_call : Contains (map recorded_of calls) (recorded_of call)
      known_call = contains_at (map recorded_of calls) at (recorded_of call) (mapped_at recorded_of calls at call call_within there)

      turn_unfit : is_noted (place_in named turn.call) place ≡ true → (kind : WitnessKind) → GivenFault g (recorded_of call) (turn_of turn) kind → TurnFault g (map recorded_of calls) (map turn_of turns) place kind
      turn_unfit here_first kind fault = unfit (recorded_of call) (turn_of turn) (mapped_at turn_of turns place turn below is) (sym its_number) known_call (first_named here_first) fault

      turn_formed : is_noted (place_in named turn.call) place ≡ true → (step : StepOf) → IsStep g (recorded_of call) (turn_of turn) step
          → IsFormed g (map recorded_of calls) (map turn_of turns) place step
      turn_formed here_first step made = record {
        turn = turn_of turn;
        there = mapped_at turn_of turns place turn below is;
        first = first_named here_first;
        call = recorded_of call;
        known = known_call;
        step = made;
      }

      -- the step that the turn makes with the call, or what it comes to
      pub turn_reported : is_noted (place_in named turn.call) place ≡ true → (result : Result Step StepFault)
          → (turn.call ≡ call.number → MatchResult result (λ (step : Step). IsStep g (recorded_of call) (turn_of turn) (step_of step)) (Refuses g (recorded_of call) (turn_of turn)))
          → MatchResult result (λ (step : Step). IsFormed g (map recorded_of calls) (map turn_of turns) place (step_of step)) (TurnRefused g (map recorded_of calls) (map turn_of turns) place)
      turn_reported here_first (Ok step) reported = turn_formed here_first (step_of step) (reported (sym its_number))
      turn_reported here_first (Err (Unfit kind)) reported = turn_unfit here_first kind (reported (sym its_number))
      turn_reported here_first (Err Memory) reported = tt

-- one turn more
pub formed_none : (g : GrantsOf) (calls : List RecordedOf) (turns : List TurnOf) → AreFormed g calls turns 0 []
formed_none g calls turns = record { counted = refl; each = λ place s at. absurd cc }

pub formed_more : (g : GrantsOf) (calls : List RecordedOf) (turns : List TurnOf) (count : ℕ) (steps : List StepOf) (step : StepOf) → AreFormed g calls turns count steps → IsFormed g calls turns count step
    → AreFormed g calls turns (count + 1) (steps ++ step ∷ [])
formed_more g calls turns count steps step f here = record {
  counted = omega (arith, f.counted, length-append steps (step ∷ []));
  each = λ place s at. by place s (pushed_at steps step place s at);
}
  where
    by : (place : ℕ) (s : StepOf) → (slice_get steps place ≡ Some s) ⊎ ((place ≡ length steps) × (step ≡ s)) → IsFormed g calls turns place s
    by place s (inl at) = f.each place s at
    by place s (inr p) =
        let P : ℕ → Type 0 = λ t. IsFormed g calls turns t s in
        let Q : StepOf → Type 0 = λ x. IsFormed g calls turns count x in
        subst P (sym (p.0 ∙ f.counted)) (subst Q p.1 here)

pub formed_below : (g : GrantsOf) (calls : List RecordedOf) (turns : List TurnOf) (count : ℕ) (steps : List StepOf) → AreFormed g calls turns count steps → AreFormedBelow g calls turns count
formed_below g calls turns count steps f = λ place below. at place (some_at steps place (omega (arith, below, f.counted)))
  where
    at : (place : ℕ) → (s : StepOf) × (slice_get steps place ≡ Some s) → (s : StepOf) × IsFormed g calls turns place s
    at place s = (s.0, f.each place s.0 s.1)

-- the fault of a turn is one of the order
pub fault_reported : (g : GrantsOf) (calls : List RecordedOf) (turns : List TurnOf) (place : ℕ) (fault : StepFault) → AreFormedBelow g calls turns place → TurnRefused g calls turns place fault
    → OrderFault g calls turns (fault_at place fault)
fault_reported g calls turns place (Unfit kind) below refused = in_turn place below refused refl
fault_reported g calls turns place Memory below refused = tt

-- after the last turn all of them are formed
pub formed_whole : (g : GrantsOf) (calls : List RecordedOf) (turns : List Turn) (count : ℕ) (steps : List StepOf) → AreFormed g calls (map turn_of turns) count steps → length turns ≤ count
    → AreFormed g calls (map turn_of turns) (length turns) steps
formed_whole g calls turns count steps f past =
    let P : ℕ → Type 0 = λ n. AreFormed g calls (map turn_of turns) n steps in
    subst P (sym (same (below_suc (length turns) count (omega (arith, past))))) f
  where
    none_more : length turns < count → ⊥
    none_more below =
        let p = some_at steps (length turns) (omega (arith, below, f.counted)) in
        let n = f.each (length turns) p.0 p.1 in
        omega (arith, at_within (map turn_of turns) (length turns) n.turn n.there, length-map turns turn_of)

    same : (length turns < count) ⊎ (length turns ≡ count) → length turns ≡ count
    same (inl below) = absurd (none_more below)
    same (inr e) = e

-- the same, of the program's steps
pub pushed_steps : (old : List Step) (s : Step) → map step_of (old ++ s ∷ []) ≡ map step_of old ++ step_of s ∷ []
pushed_steps [] s = refl
pushed_steps (x ∷ old) s = ap (λ (l : List StepOf). step_of x ∷ l) (pushed_steps old s)
