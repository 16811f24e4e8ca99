-- What a search answers.
use Rattle.std.proofs.Common.{◌≡◌, ◌≢◌, ◌<◌, ◌≤◌, ◌⊎◌, inl, inr, ℕ, zero, suc, ℤ, pos, Bool, true, false, List, [], ◌∷◌, map, length, get_or, Option, Some, None, All, Contains, Result, Ok, Err, refl, sym, ap, ◌∙◌, subst, arith}
use Rattle.std.specs.Prelude.{AllPairs, IfSome}
use Rattle.std.proofs.lemmas.List.{length-map}
use Rattle.std.proofs.lemmas.Option.{slice_get-get_or}
use Rattle.std.proofs.lemmas.List.Elements.{All-contains}
use Rattle.std.proofs.lemmas.List.Sorted.{IsPermutation-sym, Contains-permutation, length_permutation}
use Rattle.kmipa_store.specs.Ledger.{Meaning}
use Rattle.kmipa_record.specs.Marks.{MarkOf, AreRecorded, IsCallNumber}
use Rattle.kmipa_record.specs.Declarations.{DeclarationOf}
use Rattle.kmipa_record.specs.Witnesses.{TurnOf, bare_turn, witness_of, IsWitness}
use Rattle.kmipa_record.specs.declared.witness.Witness.{Witness}
use Rattle.kmipa_msgs.specs.Messages.{RulesOf}
use Rattle.kmipa_check.specs.Calls.{CallOf, AreCalls, IsRecorded}
use Rattle.kmipa_check.specs.Steps.{StepOf, IsStep}
use Rattle.kmipa_check.specs.Grants.{GrantsNothing, grants_declared}
use Rattle.kmipa_check.specs.Runs.{IsAccepted, IsExplained, TakeEachOnce, rules_declared}
use Rattle.kmipa_check.specs.Laws.{AreMade, OneListOfCalls}
use Rattle.kmipa_check.specs.Deciding.{Decided}
use Rattle.kmipa_check.specs.Verdicts.{AreKnown, Checks}
use Rattle.kmipa_check.specs.declared.fault.CheckFault.{CheckFault}
use Rattle.kmipa_check.specs.declared.fault.CheckFault.TheVariants as fault
use Rattle.kmipa_check.specs.declared.verdict.Verdict.{Verdict}
use Rattle.kmipa_check.specs.declared.verdict.Verdict.TheVariants as verdict
use Rattle.kmipa_orders.specs.LawsOfCheck.{LawsOfCheck}
use Rattle.kmipa_orders.specs.Candidates.{AreNotPlain}
use Rattle.kmipa_orders.specs.Plain.{ArePlain, AreApart, IsForced}
use Rattle.kmipa_orders.specs.Next.{weight}
use Rattle.kmipa_orders.specs.Progress.{ordered, HaveRun, CanBeTaken, Opens, ComesTo}
use Rattle.kmipa_orders.specs.Taken.{no_step, step_at}
use Rattle.kmipa_orders.specs.Confirming.{Confirms, IsTried, turns_at}
use Rattle.kmipa_orders.specs.Outcomes.{AreOver}
use Rattle.kmipa_orders.specs.Laws.{IsEnough, EnoughDecides, ForcedIsLight}
use Rattle.kmipa_orders.specs.Found.{HasDecided, stopped, enough, one_by_one, Finds, FindsIn, Searches, SearchesIn}
use Rattle.kmipa_orders.specs.declared.found.Found.{Found}
use Rattle.kmipa_orders.specs.declared.found.Found.TheVariants.{Yes, GaveUp, Refuted, Impossible, OutOfTime}
use Rattle.kmipa_check.proofs.PlaceLemmas.{contains_at, at_contains, mapped_from, get_at}
use Rattle.kmipa_orders.proofs.WritableLemmas.{bare_written, recorded_number}
use Rattle.kmipa_orders.proofs.PermutationLemmas.{IsOnce, once_pairs}
use Rattle.kmipa_orders.proofs.PlaceLemmas.{one_place}
use Rattle.kmipa_orders.proofs.CutLemmas.{once_permuted}
use Rattle.kmipa_orders.proofs.ForcedLemmas.{light}
use Rattle.kmipa_orders.proofs.PlainLemmas.{same_steps, plain_at, plain_from, plain_long, same_place, plain_begun, plain_timed, plain_once, run_takes_all}

-- ---- the seconds of a search

-- what is found without an end of time is found in any
pub found_in_time : (seconds : ℕ) (marks : List MarkOf) (declared : DeclarationOf) (budget : ℕ) (found : Found) → Finds marks declared budget found → FindsIn seconds marks declared budget found
found_in_time seconds marks declared budget (Yes witness count) f = f
found_in_time seconds marks declared budget (GaveUp count) f = f
found_in_time seconds marks declared budget (Refuted count object) f = f
found_in_time seconds marks declared budget (Impossible count place) f = f
found_in_time seconds marks declared budget (OutOfTime count after) f = absurd f

pub in_time : (seconds : ℕ) (marks : List MarkOf) (declared : DeclarationOf) (budget : ℕ) (result : Result Found CheckFault) → Searches marks declared budget result
    → SearchesIn seconds marks declared budget result
in_time seconds marks declared budget (Ok found) s = found_in_time seconds marks declared budget found s
in_time seconds marks declared budget (Err fault) s = s

-- what another way found before
pub some_in_time : (seconds : ℕ) (marks : List MarkOf) (declared : DeclarationOf) (budget : ℕ) (told : Option Found) (found : Found) → told ≡ Some found
    → IfSome told (Finds marks declared budget) → FindsIn seconds marks declared budget found
some_in_time seconds marks declared budget told found is finds =
    let P : Option Found → Type 0 = λ o. IfSome o (Finds marks declared budget) in
    found_in_time seconds marks declared budget found (subst P is finds)

-- its seconds are over
pub over_in_time : (seconds : ℕ) (marks : List MarkOf) (declared : DeclarationOf) (calls : List CallOf) (budget count after : ℕ) (over : Option ℕ) → AreCalls marks calls → count ≤ budget
    → AreOver seconds over → over ≡ Some after → FindsIn seconds marks declared budget (OutOfTime count after)
over_in_time seconds marks declared calls budget count after over are few all is =
    let P : Option ℕ → Type 0 = λ o. AreOver seconds o in
    let told = subst P is all in
    (few, (calls, are), told.0, told.1)

-- where a search has all the time that it takes, it doesn't end before
pub with_all_time : (marks : List MarkOf) (declared : DeclarationOf) (budget : ℕ) (result : Result Found CheckFault) → SearchesIn 0 marks declared budget result
    → Searches marks declared budget result
with_all_time marks declared budget (Ok (Yes witness count)) s = s
with_all_time marks declared budget (Ok (GaveUp count)) s = s
with_all_time marks declared budget (Ok (Refuted count object)) s = s
with_all_time marks declared budget (Ok (Impossible count place)) s = s
with_all_time marks declared budget (Ok (OutOfTime count after)) s = absurd (omega (arith, s.2, s.3))
with_all_time marks declared budget (Err fault) s = s

-- ---- giving up

-- calls that aren't plain: nothing is decided
pub undecided : (marks : List MarkOf) (declared : DeclarationOf) (calls : List CallOf) (budget count : ℕ) → LawsOfCheck → AreRecorded marks → AreCalls marks calls → AreNotPlain calls
    → count ≤ budget → Finds marks declared budget (GaveUp count)
undecided marks declared calls budget count laws r are not few = (few, (calls, are, λ nothing decided explained. by decided))
  where
    by : HasDecided calls budget count → ⊥
    by decided = elim decided [ stopped s plain less ↦ not s plain | enough s plain less ↦ not s plain | one_by_one f few ↦ not f.steps f.plain ]

pub forced_is_light_lem : ForcedIsLight
forced_is_light_lem calls f = omega (arith, light f.steps f.apart, plain_long calls f.steps f.plain)

-- forced, or not
pub reported_forced : (tolerance : ℤ) (calls : List CallOf) (steps : List StepOf) (forced : Bool) → ArePlain calls steps → Decided forced (AllPairs (AreApart tolerance) steps)
    → Decided forced (IsForced tolerance calls)
reported_forced tolerance calls steps true plain apart = record { steps = steps; plain = plain; apart = apart }
reported_forced tolerance calls steps false plain never = λ f. let P : List StepOf → Type 0 = λ ss. AllPairs (AreApart tolerance) ss in never (subst P (same_steps calls f.steps steps f.plain plain) f.apart)

module _ (marks : List MarkOf) (declared : DeclarationOf) (calls : List CallOf) (steps : List StepOf) (laws : LawsOfCheck) (r : AreRecorded marks) (are : AreCalls marks calls) (plain : ArePlain calls steps) where
  numbers_once : AllPairs (λ (x y : ℤ). x ≢ y) (map (λ (c : CallOf). c.number) calls)
  numbers_once = let P : List ℤ → Type 0 = λ xs. AllPairs (λ (x y : ℤ). x ≢ y) xs in subst P (sym are.numbers) r.once

  steps_once : IsOnce steps
  steps_once = once_pairs steps (plain_once calls steps plain (laws.timed marks calls r are))

  pub opens : (rules : RulesOf) (m : Meaning) → rules ≡ rules_declared declared → AreKnown declared [] m → Opens declared rules steps m
  opens rules m is known = record {
    rules_are = is;
    once = plain_once calls steps plain (laws.timed marks calls r are);
    begun = plain_begun calls steps plain (laws.timed marks calls r are);
    timed = plain_timed calls steps plain (laws.timed marks calls r are);
    known = known;
    taken = laws.taken;
    refused = laws.refused;
  }

  -- where nothing runs and nothing is granted, nothing is explained
  unexplained : GrantsNothing (grants_declared declared) → (HaveRun declared steps → ⊥) → IsExplained marks declared → ⊥
  unexplained nothing none x =
      let P : List CallOf → Type 0 = λ cs. ArePlain cs steps in
      let Q : List CallOf → Type 0 = λ cs. AllPairs (λ (a b : ℤ). a ≢ b) (map (λ (c : CallOf). c.number) cs) in
      let e = laws.one_list marks calls x.calls r are x.are in
      none (record {
        start = x.start;
        described = x.described;
        order = x.steps;
        run = run_takes_all x.calls steps (subst P e plain) (subst Q e numbers_once) laws.one_step (grants_declared declared) nothing (rules_declared declared) x.start x.steps x.run steps_once;
      })

  pub gave_up : (budget count : ℕ) → ComesTo declared steps budget None count → Finds marks declared budget (GaveUp count)
  gave_up budget count l = (l.0, (calls, are, λ nothing decided explained. unexplained nothing (l.1 (by decided)) explained))
    where
      by : HasDecided calls budget count → (count < budget) ⊎ (weight steps ≤ budget)
      by (stopped own p less) = inl less
      by (enough own p few) = inr (let P : List StepOf → Type 0 = λ ss. weight ss ≤ budget in subst P (same_steps calls own steps p plain) few)
      by (one_by_one f few) =
          let P : List StepOf → Type 0 = λ ss. weight ss ≤ budget in
          inr (subst P (same_steps calls f.steps steps f.plain plain) (omega (arith, forced_is_light_lem calls f, few)))

  -- ---- what takes these calls can be written

  module _ (places : List ℕ) (inside : (s : StepOf) → Contains (ordered steps places) s → Contains steps s) where
    mapped_twice : (ps : List ℕ) → map bare_turn (map (λ p. (step_at steps p).number) ps) ≡ turns_at steps ps
    mapped_twice [] = refl
    mapped_twice (p ∷ ps) = ap (λ (ts : List TurnOf). bare_turn (step_at steps p).number ∷ ts) (mapped_twice ps)

    numbered : (z : ℤ) → Contains (map (λ p. (step_at steps p).number) places) z → IsCallNumber z
    numbered z has =
        let q = at_contains (map (λ p. (step_at steps p).number) places) z has in
        let m = mapped_from (λ p. (step_at steps p).number) places q.0 z q.1 in
        let s = inside (step_at steps m.0) (contains_at (ordered steps places) q.0 (step_at steps m.0) (get_at (λ p. step_at steps p) places q.0 m.0 m.1)) in
        let p = at_contains steps (step_at steps m.0) s in
        let c = plain_at calls steps p.0 (step_at steps m.0) plain p.1 in
        let P : ℤ → Type 0 = λ n. IsCallNumber n in
        subst P (sym (ap (λ (x : StepOf). x.number) c.2.is) ∙ m.2)
        (recorded_number marks c.0 r (All-contains (IsRecorded marks) calls c.0 are.recorded (contains_at calls p.0 c.0 c.1)))

    writable : (witness : Witness) → witness_of witness ≡ turns_at steps places → (bytes : List ℕ) × IsWitness bytes (witness_of witness)
    writable witness is =
        let P : List TurnOf → Type 0 = λ ts. (bytes : List ℕ) × IsWitness bytes ts in
        subst P (sym (is ∙ sym (mapped_twice places))) (bare_written (map (λ p. (step_at steps p).number) places) (λ z has. numbered z has))

  -- ---- an order that a check accepts

  module _ (places : List ℕ) (within : All (λ p. p < length steps) places) where
    in_places : (s : StepOf) → Contains (ordered steps places) s → Contains steps s
    in_places s has =
        let q = at_contains (ordered steps places) s has in
        let m = mapped_from (λ p. step_at steps p) places q.0 s q.1 in
        let below : m.0 < length steps = All-contains (λ p. p < length steps) places m.0 within (contains_at places q.0 m.0 m.1) in
        let P : StepOf → Type 0 = λ x. Contains steps x in
        subst P m.2 (contains_at steps m.0 (step_at steps m.0) (slice_get-get_or steps m.0 no_step below))

    pub found_at_once : (budget count : ℕ) (witness : Witness) → witness_of witness ≡ turns_at steps places → length places ≤ count → count ≤ budget
        → IsAccepted marks declared (witness_of witness) → Finds marks declared budget (Yes witness count)
    found_at_once budget count witness is long few a = (a, writable places in_places witness is, few, turns_long)
      where
        turns_long : length (witness_of witness) ≤ count
        turns_long = omega (arith, long, ap length is, length-map {B = TurnOf} places (λ p. bare_turn (step_at steps p).number))

  -- ---- an order that can be taken is a witness

  module _ (places : List ℕ) (can : CanBeTaken declared steps (ordered steps places)) where
    abbrev order : List StepOf
    order = ordered steps places

    in_steps : (s : StepOf) → Contains order s → Contains steps s
    in_steps s has = Contains-permutation order steps s (IsPermutation-sym steps order can.once) has

    of_call : (s : StepOf) → Contains steps s → (c : CallOf) × Contains calls c × IsStep (grants_declared declared) c (bare_turn s.number) s
    of_call s has =
        let p = at_contains steps s has in
        let c = plain_at calls steps p.0 s plain p.1 in
        let P : StepOf → Type 0 = λ x. IsStep (grants_declared declared) c.0 (bare_turn x.number) x in
        (c.0, contains_at calls p.0 c.0 c.1, subst P (sym c.2.is) (laws.taken_bare (grants_declared declared) c.0 c.2.response c.2.plain))

    made : (ps : List ℕ) → ((s : StepOf) → Contains (ordered steps ps) s → Contains steps s) → AreMade (grants_declared declared) calls (turns_at steps ps) (ordered steps ps)
    made [] inside = tt
    made (p ∷ ps) inside =
        (of_call (step_at steps p) (inside (step_at steps p) (zero, omega arith, refl)), made ps (λ s has. inside s (suc has.0, omega (arith, has.1), has.2)))

    taken_once : TakeEachOnce (grants_declared declared) calls order
    taken_once = record {
      of_calls = λ s has. let c = of_call s (in_steps s has) in (c.0, bare_turn s.number, c.1, c.2);
      once = λ i j d less within same. apart i j d less within same;
      all = λ c end has ended.
          let p = at_contains calls c has in
          let s = plain_from calls steps p.0 c plain p.1 in
          (s.0, Contains-permutation steps order s.0 can.once (contains_at steps p.0 s.0 s.1), ap (λ (x : StepOf). x.number) s.2.is);
    }
      where
        apart : (i j : ℕ) (d : StepOf) → i < j → j < length order → (get_or order i d).number ≡ (get_or order j d).number → ⊥
        apart i j d less within same =
            let a = slice_get-get_or order i d (omega (arith, less, within)) in
            let b = slice_get-get_or order j d within in
            let p = at_contains steps (get_or order i d) (in_steps (get_or order i d) (contains_at order i (get_or order i d) a)) in
            let q = at_contains steps (get_or order j d) (in_steps (get_or order j d) (contains_at order j (get_or order j d) b)) in
            let e = same_place calls steps plain numbers_once p.0 q.0 (get_or order i d) (get_or order j d) p.1 q.1 same in
            omega (arith, less, one_place order i j (get_or order j d) (once_permuted steps order steps_once can.once) (a ∙ ap Some e) b)

    pub accepted : IsAccepted marks declared (turns_at steps places)
    accepted = laws.accepted marks declared calls (turns_at steps places) order can.known are (made places in_steps) taken_once can.placed can.knows can.sound

    -- what is found is reported
    pub found : (budget count : ℕ) (witness : Witness) (result : Result Found CheckFault) → count ≤ budget → length steps ≤ count → witness_of witness ≡ turns_at steps places
        → (IsAccepted marks declared (witness_of witness) → Confirms witness count result) → Searches marks declared budget result
    found budget count witness result few paid is confirms =
        let P : List TurnOf → Type 0 = λ ts. IsAccepted marks declared ts in
        let a = subst P (sym is) accepted in
        by a result (confirms a)
      where
        turns_long : length (witness_of witness) ≤ count
        turns_long = omega (arith, paid, ap length is, length-map {B = TurnOf} places (λ p. bare_turn (step_at steps p).number), length-map places (λ p. step_at steps p), length_permutation steps order can.once)

        by : IsAccepted marks declared (witness_of witness) → (result : Result Found CheckFault) → Confirms witness count result → Searches marks declared budget result
        by a (Ok (Yes w n)) c =
            let P : Witness → Type 0 = λ x. IsAccepted marks declared (witness_of x) in
            let Q : Witness → Type 0 = λ x. length (witness_of x) ≤ count in
            let W : Witness → Type 0 = λ x. (bytes : List ℕ) × IsWitness bytes (witness_of x) in
            (subst P (sym c.0) a, subst W (sym c.0) (writable places in_steps witness is), omega (arith, c.1, few), omega (arith, c.1, subst Q (sym c.0) turns_long))
        by a (Ok (GaveUp n)) c = absurd c
        by a (Ok (Refuted n object)) c = absurd c
        by a (Ok (Impossible n place)) c = absurd c
        by a (Ok (OutOfTime n after)) c = absurd c
        by a (Err fault.Memory) c = tt
        by a (Err (fault.Outside number side o)) c = absurd c
        by a (Err (fault.Witness f)) c = absurd c

-- ---- the check of a witness

-- an accepted witness is not refused
pub not_refused : (marks : List MarkOf) (declared : DeclarationOf) (turns : List TurnOf) (result : Result Verdict CheckFault) → LawsOfCheck → AreRecorded marks → IsAccepted marks declared turns
    → Checks marks declared turns result → (result ≡ Ok verdict.Yes → ⊥) → (result ≡ Err fault.Memory → ⊥) → ⊥
not_refused marks declared turns result laws r a c other fails = elim (laws.is_yes marks declared turns result r a c) [ inl e ↦ other e | inr e ↦ fails e ]

-- no verdict on an accepted witness: memory ran out
pub reported_memory : (marks : List MarkOf) (declared : DeclarationOf) (turns : List TurnOf) (result : Result Verdict CheckFault) (f : CheckFault) (witness : Witness) (count : ℕ) (answer : Result Found CheckFault)
    → LawsOfCheck → AreRecorded marks → IsAccepted marks declared turns → Checks marks declared turns result → result ≡ Err f → (f ≡ fault.Memory → answer ≡ Err fault.Memory) → Confirms witness count answer
reported_memory marks declared turns result f witness count answer laws r a c is reported = elim (laws.is_yes marks declared turns result r a c) [
  | inl e ↦ absurd cc
  | inr e ↦
      let P : Result Found CheckFault → Type 0 = λ x. Confirms witness count x in
      let same : f ≡ fault.Memory = cc in
      subst P (sym (reported same)) tt
]

-- ---- a witness with guesses

pub tried : (marks : List MarkOf) (declared : DeclarationOf) (calls : List CallOf) (budget count : ℕ) (witness : Witness) (result : Result Found CheckFault) → LawsOfCheck → AreRecorded marks → AreCalls marks calls
    → AreNotPlain calls → count ≤ budget → length (witness_of witness) ≤ count → IsTried marks declared witness count result → Searches marks declared budget result
tried marks declared calls budget count witness (Ok (Yes w n)) laws r are not few paid h =
    let P : Witness → Type 0 = λ x. IsAccepted marks declared (witness_of x) in
    let Q : Witness → Type 0 = λ x. length (witness_of x) ≤ count in
    let W : Witness → Type 0 = λ x. (bytes : List ℕ) × IsWitness bytes (witness_of x) in
    (subst P (sym h.0) h.2, subst W (sym h.0) h.3, omega (arith, h.1, few), omega (arith, h.1, subst Q (sym h.0) paid))
tried marks declared calls budget count witness (Ok (GaveUp n)) laws r are not few paid h = undecided marks declared calls budget n laws r are not (omega (arith, h, few))
tried marks declared calls budget count witness (Ok (Refuted n object)) laws r are not few paid h = absurd h
tried marks declared calls budget count witness (Ok (Impossible n place)) laws r are not few paid h = absurd h
tried marks declared calls budget count witness (Ok (OutOfTime n after)) laws r are not few paid h = absurd h
tried marks declared calls budget count witness (Err fault.Memory) laws r are not few paid h = tt
tried marks declared calls budget count witness (Err (fault.Outside number side o)) laws r are not few paid h = absurd h
tried marks declared calls budget count witness (Err (fault.Witness f)) laws r are not few paid h = absurd h

-- ---- the law

pub enough_decides_lem : OneListOfCalls → EnoughDecides
enough_decides_lem one_list marks declared calls budget (Yes witness count) nothing r are few f =
    let a = f.0 in
    record { calls = a.calls; are = a.are; start = a.start; described = a.described; steps = a.steps; run = a.run }
enough_decides_lem one_list marks declared calls budget (GaveUp count) nothing r are few f = λ explained.
    let P : List CallOf → Type 0 = λ cs. IsEnough cs budget in
    f.1.2 nothing (elim (subst P (one_list marks calls f.1.0 r are f.1.1) few) [ inl p ↦ enough p.0 p.1 p.2 | inr p ↦ one_by_one p.0 p.1 ]) explained
enough_decides_lem one_list marks declared calls budget (Refuted count object) nothing r are few f = f.2
enough_decides_lem one_list marks declared calls budget (Impossible count place) nothing r are few f = f.2
enough_decides_lem one_list marks declared calls budget (OutOfTime count after) nothing r are few f = absurd f
