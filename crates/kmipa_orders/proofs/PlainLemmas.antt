-- Plain calls and their steps.
use Rattle.std.proofs.Common.{◌≡◌, ◌≢◌, ◌<◌, inl, inr, ℕ, zero, suc, ℤ, pos, List, [], ◌∷◌, ◌++◌, map, length, get_or, Option, Some, slice_get, Contains, All, refl, sym, ap, ◌∙◌, subst, arith}
use Rattle.std.specs.Prelude.{AllPairs}
use Rattle.std.proofs.lemmas.List.{length-map, get_or-map}
use Rattle.std.proofs.lemmas.List.Sorted.{IsPermutation-sym}
use Rattle.std.proofs.lemmas.Slice.Zip.{AllZip-long}
use Rattle.std.proofs.lemmas.Option.{get_or_from_slice_get, slice_get-get_or, slice_get_within}
use Rattle.std.proofs.lemmas.List.Elements.{All-contains}
use Rattle.kmipa_object.specs.Inventory.{Thing}
use Rattle.kmipa_record.specs.Marks.{MarkOf}
use Rattle.kmipa_record.specs.Witnesses.{bare_turn}
use Rattle.kmipa_msgs.specs.Messages.{RulesOf}
use Rattle.kmipa_check.specs.Calls.{CallOf, AreTimed, IsRecorded}
use Rattle.kmipa_check.specs.Steps.{StepOf, step_with}
use Rattle.kmipa_batch.specs.Readable.{IsReadableCall}
use Rattle.kmipa_check.specs.Runs.{EndsAhead, IsRun}
use Rattle.kmipa_check.specs.Grants.{GrantsOf, GrantsNothing}
use Rattle.kmipa_check.specs.Plain.{PlainCallHasOneStep}
use Rattle.kmipa_orders.specs.LawsOfCheck.{LawsOfCheck}
use Rattle.kmipa_orders.specs.Plain.{IsPlainStep, ArePlain}
use Rattle.kmipa_orders.specs.Progress as progress
use Rattle.kmipa_orders.specs.Progress.{AllReadable, AreBegun}
use Rattle.kmipa_orders.specs.Taken.{no_step, step_at, TakesAll}
use Rattle.kmipa_orders.specs.Ranks.{end_or, AreEnded, AreClosed}
use Rattle.kmipa_check.proofs.PlaceLemmas.{contains_at, at_contains}
use Rattle.kmipa_orders.proofs.PermutationLemmas.{IsOnce, at_most, permuted}
use Rattle.kmipa_orders.proofs.PlaceLemmas.{once_at}
use Rattle.kmipa_orders.proofs.LinksLemmas.{which}

-- nothing is granted
abbrev pub no_grants : GrantsOf
no_grants = record { tolerance = pos 0; own = [] }

-- a call has one step
pub one_plain_step : (c : CallOf) (s t : StepOf) → IsPlainStep c s → IsPlainStep c t → s ≡ t
one_plain_step c s t a b =
    let x = a.plain.given in
    let y = b.plain.given in
    let same : a.response ≡ b.response = cc in
    a.is ∙ ap (step_with c) same ∙ sym b.is

pub same_steps : (calls : List CallOf) (steps others : List StepOf) → ArePlain calls steps → ArePlain calls others → steps ≡ others
same_steps [] [] [] a b = refl
same_steps [] [] (t ∷ others) a b = absurd b
same_steps [] (s ∷ steps) others a b = absurd a
same_steps (c ∷ calls) [] others a b = absurd a
same_steps (c ∷ calls) (s ∷ steps) [] a b = absurd b
same_steps (c ∷ calls) (s ∷ steps) (t ∷ others) a b =
    let here = one_plain_step c s t a.0 b.0 in
    let rest = same_steps calls steps others a.1 b.1 in
    cc

pub plain_at : (calls : List CallOf) (steps : List StepOf) (i : ℕ) (s : StepOf) → ArePlain calls steps → slice_get steps i ≡ Some s → (c : CallOf) × (slice_get calls i ≡ Some c) × IsPlainStep c s
plain_at [] [] i s h at = absurd cc
plain_at [] (x ∷ steps) i s h at = absurd h
plain_at (c ∷ calls) [] i s h at = absurd h
plain_at (c ∷ calls) (x ∷ steps) zero s h at = let e : x ≡ s = cc in let P : StepOf → Type 0 = λ y. IsPlainStep c y in (c, refl, subst P e h.0)
plain_at (c ∷ calls) (x ∷ steps) (suc i) s h at = plain_at calls steps i s h.1 at

pub plain_from : (calls : List CallOf) (steps : List StepOf) (i : ℕ) (c : CallOf) → ArePlain calls steps → slice_get calls i ≡ Some c → (s : StepOf) × (slice_get steps i ≡ Some s) × IsPlainStep c s
plain_from [] [] i c h at = absurd cc
plain_from [] (x ∷ steps) i c h at = absurd h
plain_from (d ∷ calls) [] i c h at = absurd h
plain_from (d ∷ calls) (x ∷ steps) zero c h at = let e : d ≡ c = cc in let P : CallOf → Type 0 = λ y. IsPlainStep y x in (x, refl, subst P e h.0)
plain_from (d ∷ calls) (x ∷ steps) (suc i) c h at = plain_from calls steps i c h.1 at

pub plain_pushed : (calls : List CallOf) (steps : List StepOf) (c : CallOf) (s : StepOf) → ArePlain calls steps → IsPlainStep c s → ArePlain (calls ++ c ∷ []) (steps ++ s ∷ [])
plain_pushed [] [] c s h p = (p, tt)
plain_pushed [] (x ∷ steps) c s h p = absurd h
plain_pushed (d ∷ calls) [] c s h p = absurd h
plain_pushed (d ∷ calls) (x ∷ steps) c s h p = (h.0, plain_pushed calls steps c s h.1 p)

-- a call that isn't plain spoils a list
pub not_plain : (before after : List CallOf) (c : CallOf) → ((s : StepOf) → IsPlainStep c s → ⊥) → (steps : List StepOf) → ArePlain (before ++ c ∷ after) steps → ⊥
not_plain [] after c never [] h = absurd h
not_plain [] after c never (s ∷ steps) h = never s h.0
not_plain (d ∷ before) after c never [] h = absurd h
not_plain (d ∷ before) after c never (s ∷ steps) h = not_plain before after c never steps h.1

its_number : (c : CallOf) (s : StepOf) → IsPlainStep c s → s.number ≡ c.number
its_number c s p = ap (λ (x : StepOf). x.number) p.is

its_begin : (c : CallOf) (s : StepOf) → IsPlainStep c s → s.begin ≡ c.begin
its_begin c s p = ap (λ (x : StepOf). x.begin) p.is

its_end : (c : CallOf) (s : StepOf) (p : IsPlainStep c s) → s.end ≡ Some p.plain.end
its_end c s p = ap (λ (x : StepOf). x.end) p.is ∙ p.plain.ended

pub numbers_of : (calls : List CallOf) (steps : List StepOf) → ArePlain calls steps → map (λ (s : StepOf). s.number) steps ≡ map (λ (c : CallOf). c.number) calls
numbers_of [] [] h = refl
numbers_of [] (s ∷ steps) h = absurd h
numbers_of (c ∷ calls) [] h = absurd h
numbers_of (c ∷ calls) (s ∷ steps) h =
    let here = its_number c s h.0 in
    let rest = numbers_of calls steps h.1 in
    cc

module _ (calls : List CallOf) (steps : List StepOf) (plain : ArePlain calls steps) where
  pub plain_long : length steps ≡ length calls
  plain_long = AllZip-long IsPlainStep calls steps plain

  step_here : (i : ℕ) → i < length steps → slice_get steps i ≡ Some (step_at steps i)
  step_here i below = slice_get-get_or steps i no_step below

  call_here : (i : ℕ) → i < length steps → (c : CallOf) × (slice_get calls i ≡ Some c) × IsPlainStep c (step_at steps i)
  call_here i below = plain_at calls steps i (step_at steps i) plain (step_here i below)

  pub plain_ended : AreEnded steps
  plain_ended i below =
      let c = call_here i below in
      let e = its_end c.0 (step_at steps i) c.2 in
      e ∙ ap (λ (o : Option ℕ). Some (end_or o)) (sym e)

  module _ (timed : AreTimed calls) where
    begins_ahead : (i j : ℕ) (a b : CallOf) → i < j → slice_get calls i ≡ Some a → slice_get calls j ≡ Some b → a.begin < b.begin
    begins_ahead i j a b below at there =
        let A : CallOf → Type 0 = λ x. x.begin < (get_or calls j a).begin in
        let B : CallOf → Type 0 = λ y. a.begin < y.begin in
        subst B (get_or_from_slice_get calls j b a there) (subst A (get_or_from_slice_get calls i a a at) (timed.ascend i j a below (slice_get_within calls j b there)))

    pub plain_begun : AreBegun steps
    plain_begun p q less below =
        let c = call_here p (omega (arith, less, below)) in
        let d = call_here q below in
        omega (arith, begins_ahead p q c.0 d.0 less c.1 d.1, its_begin c.0 (step_at steps p) c.2, its_begin d.0 (step_at steps q) d.2)

    closed_here : (s : StepOf) (i : ℕ) → slice_get steps i ≡ Some s → (end : ℕ) × (s.end ≡ Some end) × (s.begin < end)
    closed_here s i at =
        let c = plain_at calls steps i s plain at in
        let below = timed.closed c.0 c.2.plain.end (contains_at calls i c.0 c.1) c.2.plain.ended in
        (c.2.plain.end, its_end c.0 s c.2, omega (arith, below, its_begin c.0 s c.2))

    pub plain_closed : AreClosed steps
    plain_closed i below =
        let e = closed_here (step_at steps i) i (step_here i below) in
        let P : Option ℕ → Type 0 = λ o. (step_at steps i).begin < end_or o in
        subst P (sym e.1) e.2

    pub plain_timed : progress.AreTimed steps
    plain_timed s has before =
        let p = at_contains steps s has in
        let e = closed_here s p.0 p.1 in
        let P : Option ℕ → Type 0 = λ o. EndsAhead o s.begin in
        let less : e.0 < s.begin = subst P e.1 before in
        omega (arith, less, e.2)

    pub plain_once : AllPairs (λ (a b : StepOf). a ≢ b) steps
    plain_once i j d less within same =
        let a = get_or_from_slice_get steps i (step_at steps i) d (step_here i (omega (arith, less, within))) in
        let b = get_or_from_slice_get steps j (step_at steps j) d (step_here j within) in
        let e : (step_at steps i).begin ≡ (step_at steps j).begin = ap (λ (s : StepOf). s.begin) (sym a ∙ same ∙ b) in
        omega (arith, plain_begun i j less within, e)

  -- each step is readable
  pub plain_readable : (marks : List MarkOf) → LawsOfCheck → All (IsRecorded marks) calls → AllReadable steps
  plain_readable marks laws each s has =
      let p = at_contains steps s has in
      let c = plain_at calls steps p.0 s plain p.1 in
      let P : StepOf → Type 0 = λ x. IsReadableCall x.request x.response in
      subst P (sym c.2.is)
      (laws.readable no_grants marks c.0 (bare_turn c.0.number) (step_with c.0 c.2.response) (All-contains (IsRecorded marks) calls c.0 each (contains_at calls p.0 c.0 c.1))
      (laws.taken_bare no_grants c.0 c.2.response c.2.plain))

  -- ---- a run of the calls is a run of their steps

  module _ (once : AllPairs (λ (x y : ℤ). x ≢ y) (map (λ (c : CallOf). c.number) calls)) where
    steps_once : AllPairs (λ (a b : StepOf). a.number ≢ b.number) steps
    steps_once i j d less within same =
        let P : List ℤ → Type 0 = λ ns. AllPairs (λ (x y : ℤ). x ≢ y) ns in
        let ns = subst P (sym (numbers_of calls steps plain)) once in
        let number : StepOf → ℤ = λ s. s.number in
        ns i j (number d) less (omega (arith, within, length-map steps number))
        (get_or-map number steps i d (number d) (omega (arith, less, within)) ∙ same ∙ sym (get_or-map number steps j d (number d) within))

    pub same_place : (i j : ℕ) (a b : StepOf) → slice_get steps i ≡ Some a → slice_get steps j ≡ Some b → a.number ≡ b.number → a ≡ b
    same_place i j a b at there same = elim (which i j) [
      | inl less ↦ absurd (apart i j a b less at there same)
      | inr g ↦ elim g [
        | inl e ↦
            let P : ℕ → Type 0 = λ k. slice_get steps k ≡ Some a in
            let x = subst P e at in
            cc
        | inr more ↦ absurd (apart j i b a more there at (sym same))
      ]
    ]
      where
        apart : (i j : ℕ) (a b : StepOf) → i < j → slice_get steps i ≡ Some a → slice_get steps j ≡ Some b → a.number ≡ b.number → ⊥
        apart i j a b less at there same =
            let x = get_or_from_slice_get steps i a a at in
            let y = get_or_from_slice_get steps j b a there in
            let number : StepOf → ℤ = λ s. s.number in
            steps_once i j a less (slice_get_within steps j b there) (ap number x ∙ same ∙ sym (ap number y))

    module _ (law : PlainCallHasOneStep) (g : GrantsOf) (nothing : GrantsNothing g) (rules : RulesOf) (start : List Thing) (order : List StepOf) (run : IsRun g rules calls start order) where
      -- each step of the run is that of a call
      of_steps : (s : StepOf) → Contains order s → Contains steps s
      of_steps s has =
          let m = run.once.of_calls s has in
          let p = at_contains calls m.0 m.2 in
          let x = plain_from calls steps p.0 m.0 plain p.1 in
          let same : x.0 ≡ s = x.2.is ∙ sym (law g m.0 x.2.response m.1 s nothing x.2.plain m.3) in
          let P : StepOf → Type 0 = λ y. Contains steps y in
          subst P same (contains_at steps p.0 x.0 x.1)

      -- and each call's step is there
      all_steps : (s : StepOf) → Contains steps s → Contains order s
      all_steps s has =
          let p = at_contains steps s has in
          let c = plain_at calls steps p.0 s plain p.1 in
          let m = run.once.all c.0 c.2.plain.end (contains_at calls p.0 c.0 c.1) c.2.plain.ended in
          let q = at_contains steps m.0 (of_steps m.0 m.1) in
          let same : m.0 ≡ s = same_place q.0 p.0 m.0 s q.1 p.1 (m.2 ∙ sym (its_number c.0 s c.2)) in
          let P : StepOf → Type 0 = λ y. Contains order y in
          subst P same m.1

      order_once : IsOnce order
      order_once = once_at order (λ i j x less a b. by i j x less a b)
        where
          by : (i j : ℕ) (x : StepOf) → i < j → slice_get order i ≡ Some x → slice_get order j ≡ Some x → ⊥
          by i j x less a b =
              let u = get_or_from_slice_get order i x x a in
              let v = get_or_from_slice_get order j x x b in
              run.once.once i j x less (slice_get_within order j x b) (ap (λ (s : StepOf). s.number) (u ∙ sym v))

      pub run_takes_all : IsOnce steps → TakesAll rules steps start order
      run_takes_all each = record {
        once = IsPermutation-sym order steps (permuted order steps order_once of_steps (at_most steps order each all_steps));
        placed = run.placed;
        last = run.last;
        linked = run.linked;
      }

-- a recorded call that is plain can be judged
pub plain_one_readable : (marks : List MarkOf) (laws : LawsOfCheck) (c : CallOf) (s : StepOf) → IsRecorded marks c → IsPlainStep c s → IsReadableCall s.request s.response
plain_one_readable marks laws c s recorded p =
    let P : StepOf → Type 0 = λ x. IsReadableCall x.request x.response in
    subst P (sym p.is) (laws.readable no_grants marks c (bare_turn c.number) (step_with c p.response) recorded (laws.taken_bare no_grants c p.response p.plain))
