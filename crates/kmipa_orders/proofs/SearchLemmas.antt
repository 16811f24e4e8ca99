-- A search, event by event.
use Rattle.std.proofs.Common.{◌≡◌, ◌<◌, ◌≤◌, inl, inr, ℕ, suc, ◌+◌, ◌-◌, true, List, [], ◌∷◌, ◌++◌, length, None, refl, sym, ap, subst, arith}
use Rattle.std.specs.Prelude.{AllPairs, Bool}
use Rattle.std.proofs.lemmas.Option.{slice_get_within}
use Rattle.std.proofs.lemmas.List.{length-map}
use Rattle.kmipa_store.specs.Ledger.{Meaning}
use Rattle.kmipa_store.specs.Choices.{IsSound}
use Rattle.kmipa_record.specs.Declarations.{DeclarationOf}
use Rattle.kmipa_msgs.specs.Messages.{RulesOf}
use Rattle.kmipa_ops.specs.declared.why.Why.{Why}
use Rattle.kmipa_batch.specs.Refusals.{CallExplainsAlong, CallRefutedAlong}
use Rattle.kmipa_check.specs.Steps.{StepOf, order_of}
use Rattle.kmipa_check.specs.Runs.{rules_declared}
use Rattle.kmipa_check.specs.Laws.{TakenIsKnown, RefusedIsNever}
use Rattle.kmipa_check.specs.Verdicts.{AreKnown}
use Rattle.kmipa_orders.proofs.PermutationLemmas.{once_pairs}
use Rattle.kmipa_orders.specs.Next.{weigh, weight}
use Rattle.kmipa_orders.specs.Tries.{IsTried, closed, ahead, wished, IsPick, IsPicked, IsBehind, none_tried}
use Rattle.kmipa_orders.specs.Links.{at}
use Rattle.kmipa_orders.specs.Idle.{IsIdleStep}
use Rattle.kmipa_orders.specs.Progress.{CanBeTaken, Cleared, places, KnowsAll, Searching, IsOwed, Opens}
use Rattle.kmipa_orders.specs.Taken.{so_far, IsDead}
use Rattle.kmipa_orders.specs.declared.tried.Tried.{Tried}
use Rattle.kmipa_orders.specs.declared.tried.Visit.{Visit}
use Rattle.kmipa_orders.proofs.NextLemmas.{call_of_next}
use Rattle.kmipa_orders.proofs.DeadLemmas.{refused_dead, found_run, exhausted}
use Rattle.kmipa_orders.proofs.IdleLemmas.{dead_more, idle_dead}
use Rattle.kmipa_orders.proofs.WeightLemmas.{owed_begins, owed_picked, owed_closed}

pub knows_now : (declared : DeclarationOf) (calls : List StepOf) (taken : List ℕ) (now : Meaning) (marks : List Meaning) → KnowsAll declared calls taken now marks
    → AreKnown declared (so_far calls taken) now × IsSound now
knows_now declared calls [] now marks k = k
knows_now declared calls (p ∷ taken) now [] k = absurd k
knows_now declared calls (p ∷ taken) now (m ∷ marks) k = k.0

-- the first ranks are above 0
abbrev pub AreWishes : List ℕ → ℕ → Type 0
AreWishes wishes count = (p : ℕ) → p < count → 0 < at wishes p

none_yet : (declared : DeclarationOf) (calls : List StepOf) (wishes taken : List ℕ) → AreWishes wishes (length calls) → Cleared declared calls wishes taken none_tried
none_yet declared calls wishes taken ranks p (closed is) n = absurd cc
none_yet declared calls wishes taken ranks p (ahead less) n = absurd (omega (arith, less))
none_yet declared calls wishes taken ranks p (wished less) n = absurd (let some = ranks p (slice_get_within calls p n.call n.there) in omega (arith, less, some))

pub search_starts : (declared : DeclarationOf) (rules : RulesOf) (calls : List StepOf) (wishes : List ℕ) (m : Meaning) (marks : List Meaning) → AreWishes wishes (length calls) → Opens declared rules calls m → IsSound m
    → Searching declared calls wishes [] none_tried 0 m marks
search_starts declared rules calls wishes m marks ranks o sound = record {
  knows = (o.known, sound);
  nexts = tt;
  here = none_yet declared calls wishes [] ranks;
  after = tt;
  paid = omega arith;
  owed = λ few. record {
    here = weigh (length calls - 0) calls [];
    rest = 0;
    owed = owed_begins calls [] wishes few;
    after = tt;
    within = let z : length calls - 0 ≡ length calls = omega arith in let same = ap (λ (k : ℕ). weigh k calls []) z in omega (arith, same);
  };
}

module _ (declared : DeclarationOf) (calls : List StepOf) (wishes : List ℕ) (visits : List Visit) (t : Tried) (steps : ℕ) (now : Meaning) (marks : List Meaning)
    (s : Searching declared calls wishes visits t steps now marks) where
  long : length (places visits) ≡ length visits
  long = length-map visits (λ (v : Visit). v.place)

  -- a next call is found
  module _ (p : ℕ) (u : Tried) (k : IsPick calls (places visits) wishes t p u) where
    -- where it leads to no run, none that is tried with it does
    cleared : IsDead declared calls (p ∷ places visits) → Cleared declared calls wishes (places visits) u
    cleared dead q h n = elim (k.only q n h) [
      | inl old ↦ s.here q old n
      | inr is ↦ let P : ℕ → Type 0 = λ z. IsDead declared calls (z ∷ places visits) in subst P (sym is) dead
    ]

    -- a step is left for it where all could be tried
    pub step_left : (budget : ℕ) → length visits < length calls → weight calls ≤ budget → steps < budget
    step_left budget few enough =
        let o = s.owed few in
        let w = owed_picked calls (places visits) wishes t o.here o.owed p u k in
        let some = w.2 in
        let all = o.within in
        omega (arith, enough, some, all)

    -- it is refused
    pub search_refused : RefusedIsNever → (item : ℕ) (why : Why) → CallRefutedAlong (rules_declared declared) now k.next.call.request k.next.call.response (order_of k.next.call) item why
        → Searching declared calls wishes visits u (suc steps) now marks
    search_refused law item why e = record {
      knows = s.knows;
      nexts = s.nexts;
      here = cleared (refused_dead declared calls law (places visits) p k.next now item why (knows_now declared calls (places visits) now marks s.knows).0 e);
      after = s.after;
      paid = (let h = s.paid in omega (arith, h));
      owed = λ few.
          let o = s.owed few in
          let w = owed_picked calls (places visits) wishes t o.here o.owed p u k in
          let some = w.2 in
          let all = o.within in
          record { here = w.0; rest = o.rest; owed = w.1; after = o.after; within = omega (arith, some, all) };
    }

    -- it is taken
    pub search_taken : TakenIsKnown → AllPairs (λ (a b : StepOf). ¬ (a ≡ b)) calls → AreWishes wishes (length calls) → (idle : Bool) → (idle ≡ true → IsIdleStep k.next.call) → (m : Meaning)
        → CallExplainsAlong (rules_declared declared) now k.next.call.request k.next.call.response (order_of k.next.call) m → IsSound m
        → Searching declared calls wishes (record { place = p; tried = u; idle = idle } ∷ visits) none_tried (suc steps) m (now ∷ marks)
    search_taken law once ranks idle is_idle m e sound =
        let known = knows_now declared calls (places visits) now marks s.knows in
        record {
          knows =
              let P : StepOf → Type 0 = λ c. AreKnown declared (so_far calls (places visits) ++ c ∷ []) m in
              ((subst P (sym (call_of_next calls (places visits) p k.next)) (law declared (so_far calls (places visits)) k.next.call now m known.0 e), sound), s.knows);
          nexts = (k.next, s.nexts);
          here = none_yet declared calls wishes (p ∷ places visits) ranks;
          after = (cleared, (λ is dead. idle_dead declared calls (once_pairs calls once) (places visits) s.nexts p k.next now m known.0 e sound (is_idle is) dead), s.after);
          paid = (let h = s.paid in omega (arith, h));
          owed = λ few.
              let o = s.owed (omega (arith, few)) in
              let w = owed_picked calls (places visits) wishes t o.here o.owed p u k in
              let some = w.2 in
              let all = o.within in
              let n = long in
              record {
                here = weigh (length calls - length (p ∷ places visits)) calls (p ∷ places visits);
                rest = w.0 + o.rest;
                owed = owed_begins calls (p ∷ places visits) wishes (omega (arith, few, n));
                after = (w.0, o.rest, w.1, o.after, omega arith);
                within = omega (arith, some, all);
              };
        }

  -- all calls are taken
  pub search_found : AllPairs (λ (a b : StepOf). ¬ (a ≡ b)) calls → length calls ≤ length visits
      → (length calls ≤ steps) × CanBeTaken declared calls (so_far calls (places visits))
  search_found once all =
      let k = knows_now declared calls (places visits) now marks s.knows in
      let n = long in
      let paid = s.paid in
      (omega (arith, all, paid), found_run declared calls (places visits) now (once_pairs calls once) s.nexts (omega (arith, all, n)) k.0 k.1)

  -- no next call is left: the calls taken lead to no run
  pub search_ends : (rules : RulesOf) (m : Meaning) → Opens declared rules calls m → length visits < length calls → IsPicked calls (places visits) wishes t None → IsDead declared calls (places visits)
  search_ends rules m o few none =
      let n = long in exhausted declared calls (once_pairs calls o.once) o.timed (places visits) s.nexts (omega (arith, few, n)) (λ q x. s.here q (none q x) x)

-- and the newest is given back
pub search_back : (declared : DeclarationOf) (rules : RulesOf) (calls : List StepOf) (first : Meaning) (wishes : List ℕ) (v : Visit) (visits : List Visit) (t u : Tried) (steps : ℕ) (now m : Meaning) (marks : List Meaning)
    → Opens declared rules calls first → Searching declared calls wishes (v ∷ visits) t steps now (m ∷ marks) → suc (length visits) < length calls → IsPicked calls (places (v ∷ visits)) wishes t None
    → IsBehind v u → Searching declared calls wishes visits u steps m marks
search_back declared rules calls first wishes v visits t u steps now m marks o s few none behind = record {
  knows = s.knows.1;
  nexts = s.nexts.1;
  here = clear behind;
  after = s.after.2;
  paid = (let h = s.paid in omega (arith, h));
  owed = λ less.
      let a = s.owed few in
      let b = a.after in
      let all = a.within in
      let sum = b.4 in
      record { here = b.0; rest = b.1; owed = owed behind b.0 b.2; after = b.3; within = omega (arith, all, sum) };
}
  where
    dead : IsDead declared calls (v.place ∷ places visits)
    dead = search_ends declared calls wishes (v ∷ visits) t steps now (m ∷ marks) s rules first o few none

    clear : IsBehind v u → Cleared declared calls wishes (places visits) u
    clear (inl is) = let P : Tried → Type 0 = λ x. Cleared declared calls wishes (places visits) x in subst P (sym is) (s.after.0 dead)
    clear (inr (idle, is)) = λ q h n. dead_more declared calls (once_pairs calls o.once) (places visits) s.nexts.1 q (s.after.1 idle dead)

    owed : IsBehind v u → (amount : ℕ) → IsOwed calls wishes (places visits) v.tried amount → IsOwed calls wishes (places visits) u amount
    owed (inl is) amount h = let P : Tried → Type 0 = λ x. IsOwed calls wishes (places visits) x amount in subst P (sym is) h
    owed (inr (idle, is)) amount h =
        owed_closed calls (places visits) wishes v.tried amount h u (λ p. let P : Tried → Type 0 = λ x. IsTried wishes x p in subst P (sym is) (closed refl))
