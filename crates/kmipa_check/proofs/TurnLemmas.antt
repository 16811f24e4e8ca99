-- What a turn comes to.
use Rattle.std.proofs.Common.{◌≡◌, ◌≢◌, ◌<◌, ◌⊎◌, inl, inr, ℕ, zero, suc, ◌+◌, ◌-◌, ℤ, ◌<ℤ◌, Bool, true, false, List, map, length, get_or, Option, Some, None, slice_get, Result, Ok, Err, refl, sym, ap, subst, arith}
use Rattle.std.specs.Prelude.{int_lt}
use Rattle.std.specs.Int.Signed.{clash_ℤ}
use Rattle.std.proofs.lemmas.Bool.Decides.{nat_tests}
use Rattle.std.proofs.lemmas.Int.{ints}
use Rattle.kmipa_store.specs.Ledger.{Meaning, LedgerState}
use Rattle.kmipa_msgs.specs.Messages.{RulesOf}
use Rattle.kmipa_ops.specs.declared.why.Why.{Why}
use Rattle.kmipa_ops.specs.declared.why.Why.TheVariants.{EarlierCallLate, StampRunsBack}
use Rattle.kmipa_batch.specs.Refusals.{CallTakenAlong}
use Rattle.kmipa_batch.specs.Readable.{IsReadableCall}
use Rattle.kmipa_batch.specs.declared.refusal.CallRefusal.{CallRefusal}
use Rattle.kmipa_batch.specs.declared.refusal.CallRefusal.TheVariants as refusal
use Rattle.kmipa_check.specs.declared.fault.CheckFault.{CheckFault}
use Rattle.kmipa_check.specs.declared.fault.CheckFault.TheVariants.{Memory}
use Rattle.kmipa_check.specs.declared.verdict.Refused.{Refused}
use Rattle.kmipa_check.specs.declared.step.Step.{Step}
use Rattle.kmipa_check.specs.Places.{MayBeTaken}
use Rattle.kmipa_check.specs.Steps.{StepOf, order_of, step_of}
use Rattle.kmipa_check.specs.Verdicts.{IsLate, RunsBack, ArePlaced}
use Rattle.kmipa_check.specs.Late.{FirstLate, is_at}
use Rattle.kmipa_check.specs.Deciding.{Decided}
use Rattle.kmipa_check.specs.Replays.{TurnTaken, AllTakable}
use Rattle.kmipa_check.proofs.ReplayLemmas.{replayed_more, refused_late, refused_back, refused_call}
use Rattle.kmipa_check.proofs.PlaceLemmas.{mapped_at, contains_at}

pub late_here : (order : List StepOf) (late : Option ℕ) (turn : ℕ) (c : StepOf) → FirstLate order late → slice_get order turn ≡ Some c → is_at late turn ≡ true → IsLate order turn c
late_here order None turn c h at e = absurd cc
late_here order (Some late) turn c h at e =
    let same : late ≡ turn = grind (arith, nat_tests) in
    let P : ℕ → Type 0 = λ n. (x : StepOf) → slice_get order n ≡ Some x → IsLate order n x in
    subst P same h.1 c at

apart : (a b : ℕ) → (a < b) ⊎ ((a ≡ b) ⊎ (b < a))
apart zero zero = inr (inl refl)
apart zero (suc b) = inl (omega arith)
apart (suc a) zero = inr (inr (omega arith))
apart (suc a) (suc b) = up (apart a b)
  where
    up : (a < b) ⊎ ((a ≡ b) ⊎ (b < a)) → (suc a < suc b) ⊎ ((suc a ≡ suc b) ⊎ (suc b < suc a))
    up (inl h) = inl (omega (arith, h))
    up (inr (inl e)) = inr (inl (ap suc e))
    up (inr (inr h)) = inr (inr (omega (arith, h)))

-- where the turns before are placed and the first late turn isn't this one, it isn't late
pub none_late : (order : List StepOf) (late : Option ℕ) (turn : ℕ) (c : StepOf) → FirstLate order late → ArePlaced order turn → slice_get order turn ≡ Some c → is_at late turn ≡ false
    → IsLate order turn c → ⊥
none_late order None turn c h placed at never is = h turn c (omega arith) at is
none_late order (Some late) turn c h placed at never is = by (apart turn late)
  where
    by : (turn < late) ⊎ ((turn ≡ late) ⊎ (late < turn)) → ⊥
    by (inl b) = h.2 turn c (omega arith) b at is
    by (inr (inl e)) = grind (arith, nat_tests)
    by (inr (inr b)) = let p = placed late b in p.1.kept (h.1 p.0 p.1.there)

module _ (rules : RulesOf) (order : List StepOf) (turn : ℕ) (c : StepOf) (there : slice_get order turn ≡ Some c) (s : LedgerState) where
  pub turn_late : (m : Meaning) (v : Refused) → v ≡ record { turn = turn + 1; call = c.number; item = 0; why = EarlierCallLate } → IsLate order turn c → TurnTaken rules order turn s.now (Ok (Some v)) m
  turn_late m v e late = λ declared is r.
      refused_late declared order turn s.now r c there v (ap (λ (x : Refused). x.turn) e) (sym (ap (λ (x : Refused). x.call) e)) (ap (λ (x : Refused). x.item) e) (ap (λ (x : Refused). x.why) e) late

  module _ (late : Option ℕ) (first : FirstLate order late) (here : is_at late turn ≡ false) where
    pub turn_back : (m : Meaning) (v : Refused) → v ≡ record { turn = turn + 1; call = c.number; item = 0; why = StampRunsBack } → RunsBack order turn c → TurnTaken rules order turn s.now (Ok (Some v)) m
    turn_back m v e back = λ declared is r.
        refused_back declared order turn s.now r c there v (ap (λ (x : Refused). x.turn) e) (sym (ap (λ (x : Refused). x.call) e)) (ap (λ (x : Refused). x.item) e) (ap (λ (x : Refused). x.why) e)
        (none_late order late turn c first r.placed there here) back

    pub turn_refused : (u : LedgerState) (item : ℕ) (why : Why) → (RunsBack order turn c → ⊥) → CallTakenAlong rules s c.request c.response (order_of c) (Err (refusal.Impossible item why)) u
        → TurnTaken rules order turn s.now (Ok (Some (record { turn = turn + 1; call = c.number; item = item; why = why }))) u.now
    turn_refused u item why stamped t = λ declared is r.
        let P : RulesOf → Type 0 = λ x. CallTakenAlong x s c.request c.response (order_of c) (Err (refusal.Impossible item why)) u in
        refused_call declared order turn s.now r c there (record { turn = turn + 1; call = c.number; item = item; why = why }) item why s u refl refl refl refl refl
        (none_late order late turn c first r.placed there here) stamped (subst P is t)

    -- whatever is answered, where it tells a refused item as such, and want of memory as such
    pub turn_not_taken : (u : LedgerState) (r : CallRefusal) (result : Result (Option Refused) CheckFault) → (RunsBack order turn c → ⊥)
        → ((item : ℕ) (why : Why) → r ≡ refusal.Impossible item why → result ≡ Ok (Some (record { turn = turn + 1; call = c.number; item = item; why = why })))
        → (r ≡ refusal.Memory → result ≡ Err Memory) → CallTakenAlong rules s c.request c.response (order_of c) (Err r) u → TurnTaken rules order turn s.now result u.now
    turn_not_taken u (refusal.Impossible item why) result stamped reported full t =
        let P : Result (Option Refused) CheckFault → Type 0 = λ x. TurnTaken rules order turn s.now x u.now in
        subst P (sym (reported item why refl)) (turn_refused u item why stamped t)
    turn_not_taken u refusal.Memory result stamped reported full t =
        let P : Result (Option Refused) CheckFault → Type 0 = λ x. TurnTaken rules order turn s.now x u.now in
        subst P (sym (full refl)) (λ declared is r. tt)

    pub turn_done : (u : LedgerState) → (RunsBack order turn c → ⊥) → CallTakenAlong rules s c.request c.response (order_of c) (Ok tt) u → TurnTaken rules order turn s.now (Ok None) u.now
    turn_done u stamped t = λ declared is r.
        let P : RulesOf → Type 0 = λ x. CallTakenAlong x s c.request c.response (order_of c) (Ok tt) u in
        replayed_more declared order turn c s.now r (record { there = there; kept = none_late order late turn c first r.placed there here; stamped = stamped }) s u refl (subst P is t)

-- the step at a turn
pub turn_at : (steps : List Step) (turn : ℕ) (s : Step) → turn < length steps → s ≡ get_or steps turn s → slice_get (map step_of steps) turn ≡ Some (step_of s)
turn_at steps turn s below is = mapped_at step_of steps turn s below is

pub turn_takable : (steps : List Step) (turn : ℕ) (s : Step) → turn < length steps → s ≡ get_or steps turn s
    → AllTakable (map step_of steps) → IsReadableCall (step_of s).request (step_of s).response × MayBeTaken (step_of s).request (step_of s).response (step_of s).places
turn_takable steps turn s below is takable = takable (step_of s) (contains_at (map step_of steps) turn (step_of s) (turn_at steps turn s below is))

-- the stamp is less than that of the turn before, or it isn't
module _ (steps : List Step) (turn : ℕ) (now last : Step) (below : turn < length steps) (some : turn ≢ 0) (here : now ≡ get_or steps turn now) (before : last ≡ get_or steps (turn - 1) last) where
  last_at : slice_get (map step_of steps) (turn - 1) ≡ Some (step_of last)
  last_at = turn_at steps (turn - 1) last (omega (arith, below)) before

  same_now : (c : StepOf) → slice_get (map step_of steps) turn ≡ Some c → c ≡ step_of now
  same_now c at = let there = turn_at steps turn now below here in cc

  pub back_decided : (c : StepOf) → slice_get (map step_of steps) turn ≡ Some c → (less : Bool) → Decided less ((step_of now).response.stamp <ℤ (step_of last).response.stamp)
      → Decided less (RunsBack (map step_of steps) turn c)
  back_decided c at true h =
      let P : StepOf → Type 0 = λ x. RunsBack (map step_of steps) turn x in
      subst P (sym (same_now c at)) (turn - 1, step_of last, omega (arith, some), last_at, h)
  back_decided c at false h = λ back.
      let P : StepOf → Type 0 = λ x. RunsBack (map step_of steps) turn x in
      let b = subst P (same_now c at) back in
      let place : b.0 ≡ turn - 1 = omega (arith, b.2) in
      let Q : ℕ → Type 0 = λ n. slice_get (map step_of steps) n ≡ Some b.1 in
      let there = subst Q place b.3 in
      let that = last_at in
      let same : b.1 ≡ step_of last = cc in
      let R : StepOf → Type 0 = λ x. (step_of now).response.stamp <ℤ x.response.stamp in
      h (subst R same b.4)

less_decided : (a b : ℤ) → Decided (int_lt a b) (a <ℤ b)
less_decided a b = by (int_lt a b) refl
  where
    by : (less : Bool) → int_lt a b ≡ less → Decided less (a <ℤ b)
    by true e = omega (arith, ints)
    by false e = λ h. clash_ℤ h (omega (arith, ints))

-- a test of two numbers that are these two
pub less_decided_of : (a b p q : ℤ) → a ≡ p → b ≡ q → Decided (int_lt a b) (p <ℤ q)
less_decided_of a b p q e f =
    let P : ℤ → Type 0 = λ x. Decided (int_lt x b) (p <ℤ q) in
    let Q : ℤ → Type 0 = λ y. Decided (int_lt p y) (p <ℤ q) in
    subst P (sym e) (subst Q (sym f) (less_decided p q))
