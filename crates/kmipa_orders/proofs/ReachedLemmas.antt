-- Calls that are taken along a hint, and what is told of each that may be next behind them.
use Rattle.std.proofs.Common.{◌≡◌, ◌<◌, ◌≤◌, ◌⊎◌, inl, inr, ℕ, ℤ, ◌+◌, ◌≤ℤ◌, List, [], ◌∷◌, ◌++◌, map, length, get_or, Option, Some, None, Ok, Err, true, false, slice_get, Contains, refl, sym, ap, ◌∙◌, subst, arith, add-one}
use Rattle.std.specs.Prelude.{AllPairs, IfErr, IfOk, Result, is_some}
use Rattle.std.specs.Int.Signed.{clash_ℤ}
use Rattle.std.proofs.lemmas.List.{length-append, length-map, map-append, take_at}
use Rattle.std.proofs.lemmas.List.Elements.{Contains-append_cases, Contains-append_left, Contains-append_right}
use Rattle.std.proofs.lemmas.Option.{slice_get_within, get_or_from_slice_get}
use Rattle.std.proofs.lemmas.Slice.Zip.{all_zipped_more}
use Rattle.kmipa_object.proofs.ListLemmas.{get-append_last}
use Rattle.kmipa_store.specs.Ledger.{Meaning, LedgerState}
use Rattle.kmipa_store.specs.Choices.{IsSound, inv}
use Rattle.kmipa_record.specs.Marks.{MarkOf, AreRecorded}
use Rattle.kmipa_record.specs.Declarations.{DeclarationOf}
use Rattle.kmipa_msgs.specs.Messages.{RulesOf}
use Rattle.kmipa_batch.specs.Refusals.{CallExplainsAlong}
use Rattle.kmipa_check.specs.Calls.{CallOf, AreCalls}
use Rattle.kmipa_check.specs.CallReading.{CallsFault}
use Rattle.kmipa_check.specs.Steps.{StepOf, order_of}
use Rattle.kmipa_check.specs.Runs.{Before, IsPlaced, rules_declared}
use Rattle.kmipa_check.specs.Replays.{Replayed}
use Rattle.kmipa_check.specs.Verdicts.{IsPlacedAt, AreKnown}
use Rattle.kmipa_check.specs.declared.fault.CheckFault.{CheckFault}
use Rattle.kmipa_check.specs.declared.fault.CheckFault.TheVariants.{Outside, Witness, Memory}
use Rattle.kmipa_check.specs.declared.verdict.Refused.{Refused}
use Rattle.kmipa_check.proofs.FirstOutsideLemmas.{none_outside}
use Rattle.kmipa_check.proofs.ReplayLemmas.{refused_call}
use Rattle.kmipa_check.proofs.RunLemmas.{taken_is_known_lem}
use Rattle.kmipa_orders.specs.Next.{IsNext}
use Rattle.kmipa_orders.specs.Plain.{ArePlain}
use Rattle.kmipa_orders.specs.Progress.{CallTried, IsNextFrom}
use Rattle.kmipa_orders.specs.Taken.{no_step, step_at, so_far, AreNext}
use Rattle.kmipa_orders.specs.Reached.{CanBeDone, HaveSteps, TellsLast, TellsNext, TellsAllNext, IsReached, Reaches}
use Rattle.kmipa_orders.specs.Reaching.{AreTaken, IsJudged, TellsAhead}
use Rattle.kmipa_orders.specs.Remaining.{AreRemaining}
use Rattle.kmipa_orders.specs.declared.stuck.NextCall.{NextCall}
use Rattle.kmipa_orders.specs.declared.stuck.Reached.{Reached}
use Rattle.kmipa_orders.specs.declared.remaining.Remaining.{Remaining}
use Rattle.kmipa_check.proofs.PlaceLemmas.{below_suc, some_at}
use Rattle.kmipa_orders.proofs.LinksLemmas.{which}
use Rattle.kmipa_orders.proofs.PlaceLemmas.{one_cases, has_head, pairs_pushed}
use Rattle.kmipa_orders.proofs.NextLemmas.{length_so_far, placed_so_far}

-- ---- steps that are placed

pair_at : {X : Type 0} (R : X → X → Type 0) (xs : List X) (i j : ℕ) (x y : X) → AllPairs R xs → i < j → slice_get xs i ≡ Some x → slice_get xs j ≡ Some y → R x y
pair_at {X = X} R xs i j x y all below p q =
    let A : X → Type 0 = λ u. R u (get_or xs j x) in
    let B : X → Type 0 = λ v. R x v in
    subst B (get_or_from_slice_get xs j y x q) (subst A (get_or_from_slice_get xs i x x p) (all i j x below (slice_get_within xs j y q)))

placed_at : (order : List StepOf) (turn : ℕ) (c : StepOf) → IsPlaced order → slice_get order turn ≡ Some c → IsPlacedAt order turn c
placed_at order turn c p at = record {
  there = at;
  kept = λ l. pair_at (λ (a b : StepOf). ¬ (Before b a)) order turn l.0 c l.1 p.kept l.2 at l.3 l.4;
  stamped = λ l. clash_ℤ l.4 (pair_at (λ (a b : StepOf). a.response.stamp ≤ℤ b.response.stamp) order l.0 turn l.1 c p.stamped (omega (arith, l.2)) l.3 at);
}

-- ---- what is told of a next call

-- what is known of an order tells that it can be done
known_done : (declared : DeclarationOf) (order : List StepOf) (m : Meaning) → AreKnown declared order m → IsSound m → CanBeDone declared order
known_done declared order m known sound = let c = sound.choice in (inv c.0 m.objects, known.sound c.0 c.1)

module _ (declared : DeclarationOf) (steps : List StepOf) (taken : List ℕ) (next_each : AreNext steps taken) (m : Meaning) (known : AreKnown declared (so_far steps taken) m) (sound : IsSound m)
    (place : ℕ) (n : IsNext steps taken place) where
  abbrev before : List StepOf
  before = so_far steps taken

  abbrev call : StepOf
  call = step_at steps place

  abbrev order : List StepOf
  order = so_far steps (place ∷ taken)

  placed : IsPlaced order
  placed = placed_so_far steps (place ∷ taken) (n, next_each)

  here : slice_get order (length before) ≡ Some call
  here = get-append_last before call

  replayed : Replayed declared order (length before) m
  replayed =
      let P : List StepOf → Type 0 = λ xs. AreKnown declared xs m in
      record {
        placed = λ turn below. let c = some_at order turn (omega (arith, below, length-append before (call ∷ []))) in (c.0, placed_at order turn c.0 placed c.1);
        known = subst P (sym (take_at before (call ∷ []) (length before) refl)) known;
        sound = sound;
      }

  told_last : (refused : Option Refused) → IsJudged (rules_declared declared) m call (length taken + 1) refused → TellsLast declared order refused
  told_last None j = known_done declared order j.0 (taken_is_known_lem declared before call m j.0 known j.1) j.2
  told_last (Some r) j =
      let turned : r.turn ≡ length before + 1 = omega (arith, j.0, length_so_far steps taken) in
      let at = placed_at order (length before) call placed here in
      let s : LedgerState = record { now = m; marks = [] } in (
        omega (arith, j.0, length_so_far steps (place ∷ taken)),
        refused_call declared order (length before) m replayed call here r r.item r.why s s refl turned (sym j.1) refl refl at.kept at.stamped (j.2, refl),
      )

  pub told_next : (rules : RulesOf) (turn : ℕ) (c : StepOf) (told : NextCall) → rules ≡ rules_declared declared → turn ≡ length taken + 1 → slice_get steps place ≡ Some c → told.call ≡ c.number
      → IsJudged rules m c turn told.refused → TellsNext declared steps taken place told
  told_next rules turn c told is at there number judged =
      let is_call : call ≡ c = get_or_from_slice_get steps place c no_step there in
      let R : RulesOf → Type 0 = λ r. IsJudged r m c turn told.refused in
      let T : ℕ → Type 0 = λ t. IsJudged (rules_declared declared) m c t told.refused in
      let C : StepOf → Type 0 = λ x. IsJudged (rules_declared declared) m x (length taken + 1) told.refused in
      record {
        number = number ∙ ap (λ (x : StepOf). x.number) (sym is_call);
        last = told_last told.refused (subst C (sym is_call) (subst T at (subst R is judged)));
      }

-- ---- all next calls

from_on : (q from : ℕ) → (q ≡ from) ⊎ (from < q) → from ≤ q
from_on q from (inl is) = omega (arith, is)
from_on q from (inr more) = omega (arith, more)

module _ (declared : DeclarationOf) (steps : List StepOf) (taken : List ℕ) where
  pub tells_none : TellsAhead declared steps taken 0 []
  tells_none = record {
    places = [];
    cursor = inl refl;
    each = λ place has. absurd (omega (arith, has.1));
    all = λ place n less. absurd (omega (arith, less));
    ahead = λ place has. absurd (omega (arith, has.1));
    ascend = λ i j d below within. absurd (omega (arith, within));
    zipped = tt;
  }

  module _ (from : ℕ) (told : List NextCall) (t : TellsAhead declared steps taken from told) where
    pub tells_more : (place : ℕ) (x : NextCall) → IsNextFrom steps taken from (Some place) → TellsNext declared steps taken place x
        → TellsAhead declared steps taken (place + 1) (told ++ x ∷ [])
    tells_more place x f tells = record {
      places = t.places ++ place ∷ [];
      cursor = inr (place, add-one place, f.1);
      each = λ q has. elim (split q has) [
        | inl old ↦ t.each q old
        | inr is ↦ let P : ℕ → Type 0 = λ k. IsNext steps taken k in subst P is f.1
      ];
      all = λ q n less. elim (below_suc q place (omega (arith, less))) [
        | inl lower ↦ Contains-append_left t.places (place ∷ []) q (t.all q n (skipped q n lower))
        | inr is ↦ let P : ℕ → Type 0 = λ k. Contains (t.places ++ place ∷ []) k in subst P (sym is) (Contains-append_right t.places (place ∷ []) place (has_head place []))
      ];
      ahead = λ q has. elim (split q has) [
        | inl old ↦ omega (arith, t.ahead q old, f.0)
        | inr is ↦ omega (arith, is)
      ];
      ascend = pairs_pushed (λ (a b : ℕ). a < b) t.places place t.ascend (λ q has. omega (arith, t.ahead q has, f.0));
      zipped = all_zipped_more (TellsNext declared steps taken) t.places told place x t.zipped tells;
    }
      where
        split : (q : ℕ) → Contains (t.places ++ place ∷ []) q → Contains t.places q ⊎ (place ≡ q)
        split q has = elim (Contains-append_cases t.places (place ∷ []) q has) [
          | inl l ↦ inl l
          | inr r ↦ elim (one_cases place q [] r) [ inl is ↦ inr is | inr none ↦ absurd (omega (arith, none.1)) ]
        ]

        skipped : (q : ℕ) → IsNext steps taken q → q < place → q < from
        skipped q n lower = elim (which q from) [ inl less ↦ less | inr past ↦ absurd (f.2 q (from_on q from past) lower n) ]

    -- none is left
    pub tells_all : ((place : ℕ) → from ≤ place → IsNext steps taken place → ⊥) → TellsAllNext declared steps taken told
    tells_all none = record {
      places = t.places;
      are = record { each = t.each; all = λ q n. t.all q n (ahead q n); ascend = t.ascend };
      zipped = t.zipped;
    }
      where
        ahead : (q : ℕ) → IsNext steps taken q → q < from
        ahead q n = elim (which q from) [ inl less ↦ less | inr past ↦ absurd (none q (from_on q from past) n) ]

    pub tells_past : length steps ≤ from → TellsAllNext declared steps taken told
    tells_past past = tells_all (λ q after n. let within = slice_get_within steps q n.call n.there in omega (arith, past, after, within))

-- ---- calls that are taken along a hint

-- what trying a call came to
pub none_taken : (rules : RulesOf) (s u : LedgerState) (c : StepOf) (o : Option ℕ) → is_some o ≡ false → CallTried rules s c (Ok o) u → u ≡ s
none_taken rules s u c None e t = t.1
none_taken rules s u c (Some mark) e t = absurd cc

pub some_taken : (rules : RulesOf) (s u : LedgerState) (c : StepOf) (o : Option ℕ) → is_some o ≡ true → CallTried rules s c (Ok o) u
    → CallExplainsAlong rules s.now c.request c.response (order_of c) u.now × IsSound u.now
some_taken rules s u c None e t = absurd cc
some_taken rules s u c (Some mark) e t = (t.0, t.1)

pub taken_none : (declared : DeclarationOf) (steps : List StepOf) (w : Remaining) (m : Meaning) → AreRemaining steps [] w → AreKnown declared [] m → AreTaken declared steps w m []
taken_none declared steps w m remaining known = record { taken = []; remaining = remaining; known = known; are = refl }

module _ (declared : DeclarationOf) (steps : List StepOf) (w : Remaining) (m : Meaning) (numbers : List ℤ) (t : AreTaken declared steps w m numbers) where
  pub taken_more : (place : ℕ) (c : StepOf) (x : Remaining) (n : Meaning) (number : ℤ) (more : List ℤ) → slice_get steps place ≡ Some c
      → CallExplainsAlong (rules_declared declared) m c.request c.response (order_of c) n → AreRemaining steps (place ∷ t.taken) x → number ≡ c.number → more ≡ numbers ++ number ∷ []
      → AreTaken declared steps x n more
  taken_more place c x n number more there e remaining is pushed =
      let is_call : step_at steps place ≡ c = get_or_from_slice_get steps place c no_step there in
      let P : StepOf → Type 0 = λ s. AreKnown declared (so_far steps t.taken ++ s ∷ []) n in
      record {
        taken = place ∷ t.taken;
        remaining = remaining;
        known = subst P (sym is_call) (taken_is_known_lem declared (so_far steps t.taken) c m n t.known e);
        are =
            pushed ∙ ap (λ (k : ℤ). numbers ++ k ∷ []) is
            ∙ ap (λ (ns : List ℤ). ns ++ c.number ∷ []) t.are
            ∙ ap (λ (s : StepOf). map (λ (x : StepOf). x.number) (so_far steps t.taken) ++ s.number ∷ []) (sym is_call)
            ∙ sym (map-append (λ (x : StepOf). x.number) (so_far steps t.taken) (step_at steps place ∷ []));
      }

  pub taken_long : length numbers ≡ length t.taken
  taken_long = ap length t.are ∙ length-map (so_far steps t.taken) (λ (x : StepOf). x.number) ∙ length_so_far steps t.taken

  pub taken_reached : (r : Reached) → r.taken.items ≡ numbers → IsSound m → TellsAllNext declared steps t.taken r.next.items → IsReached declared steps r
  taken_reached r is sound next = record {
    taken = t.taken;
    next_each = t.remaining.next;
    numbers = is ∙ t.are;
    done = known_done declared (so_far steps t.taken) m t.known sound;
    next = next;
  }

-- ---- a transcript whose calls are plain

-- none of its messages is outside
pub no_fault : (marks : List MarkOf) → AreRecorded marks → HaveSteps marks → (fault : CheckFault) → CallsFault marks fault → fault ≡ Memory
no_fault marks recorded steps (Outside number side o) f = absurd (none_outside marks recorded steps.0 number side o.item o.kind steps.1 f)
no_fault marks recorded steps (Witness w) f = absurd f
no_fault marks recorded steps Memory f = refl

-- and what is told of their steps is told of it
pub reached_told : (marks : List MarkOf) (declared : DeclarationOf) (result : Result Reached CheckFault) (calls : List CallOf) (steps : List StepOf) → AreCalls marks calls → ArePlain calls steps
    → IfOk result (IsReached declared steps) → IfErr result (λ fault. fault ≡ Memory) → Reaches marks declared result
reached_told marks declared (Ok r) calls steps are plain told memory = record { calls = calls; are = are; steps = steps; plain = plain; is = told }
reached_told marks declared (Err fault) calls steps are plain told memory = memory
