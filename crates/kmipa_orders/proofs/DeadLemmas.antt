-- Which calls taken lead to no run, and which are one.
use Rattle.std.proofs.Common.{◌≡◌, ◌<◌, ◌≤◌, ℕ, List, [], ◌∷◌, ◌++◌, length, Some, slice_get, refl, sym, ap, ◌∙◌, subst, arith}
use Rattle.std.proofs.lemmas.List.{length-append, append_assoc}
use Rattle.std.proofs.lemmas.List.Sorted.{length_permutation}
use Rattle.kmipa_store.specs.Ledger.{Meaning}
use Rattle.kmipa_store.specs.Choices.{IsSound}
use Rattle.kmipa_record.specs.Declarations.{DeclarationOf}
use Rattle.kmipa_ops.specs.declared.why.Why.{Why}
use Rattle.kmipa_batch.specs.Refusals.{CallRefutedAlong}
use Rattle.kmipa_check.specs.Steps.{StepOf, order_of}
use Rattle.kmipa_check.specs.Runs.{Linked, rules_declared}
use Rattle.kmipa_check.specs.Laws.{RefusedIsNever}
use Rattle.kmipa_check.specs.Verdicts.{AreKnown}
use Rattle.kmipa_orders.proofs.PermutationLemmas.{IsOnce}
use Rattle.kmipa_orders.specs.Next.{IsNext}
use Rattle.kmipa_orders.specs.Progress.{HaveRun, CanBeTaken, AreTimed}
use Rattle.kmipa_orders.specs.Taken.{step_at, so_far, TakesAll, IsDead, AreNext}
use Rattle.kmipa_orders.proofs.NextLemmas.{call_of_next, length_so_far, permuted_so_far, placed_so_far, next_of_order}

module _ (declared : DeclarationOf) (calls : List StepOf) where
  -- where no call is taken and all is dead, there is no run
  pub none_runs : IsDead declared calls [] → HaveRun declared calls → ⊥
  none_runs dead h = dead h.start h.order h.order h.described h.run refl

  -- a call that the ledger refuses
  pub refused_dead : RefusedIsNever → (taken : List ℕ) (p : ℕ) (n : IsNext calls taken p) (m : Meaning) (item : ℕ) (why : Why) → AreKnown declared (so_far calls taken) m
      → CallRefutedAlong (rules_declared declared) m n.call.request n.call.response (order_of n.call) item why → IsDead declared calls (p ∷ taken)
  refused_dead law taken p n m item why k e start order rest d run is =
      let P : List StepOf → Type 0 = λ o. Linked (rules_declared declared) start o run.last in
      let Q : StepOf → Type 0 = λ c. Linked (rules_declared declared) start (so_far calls taken ++ c ∷ rest) run.last in
      let split : order ≡ so_far calls taken ++ (step_at calls p ∷ [] ++ rest) = is ∙ append_assoc (so_far calls taken) (step_at calls p ∷ []) rest in
      law declared (so_far calls taken) rest n.call m item why start run.last k e d (subst Q (call_of_next calls taken p n) (subst P split run.linked))

  -- a run of all calls taken
  pub found_run : (taken : List ℕ) (m : Meaning) → IsOnce calls → AreNext calls taken → length calls ≤ length taken → AreKnown declared (so_far calls taken) m → IsSound m
      → CanBeTaken declared calls (so_far calls taken)
  found_run taken m once n all k sound =
      record { once = permuted_so_far calls once taken n all; placed = placed_so_far calls taken n; known = m; knows = k; sound = sound }

  module _ (once : IsOnce calls) (timed : AreTimed calls) where
    -- where no next call leads to a run
    pub exhausted : (taken : List ℕ) → AreNext calls taken → length taken < length calls → ((p : ℕ) → IsNext calls taken p → IsDead declared calls (p ∷ taken)) → IsDead declared calls taken
    exhausted taken n few none start order rest d run is = by rest is
      where
        by : (rest : List StepOf) → order ≡ so_far calls taken ++ rest → ⊥
        by [] is = omega (arith, few, length_permutation calls order run.once, ap length is, length-append (so_far calls taken) [], length_so_far calls taken)
        by (c ∷ rest) is =
            let P : List StepOf → Type 0 = λ o. TakesAll (rules_declared declared) calls start o in
            let r = subst P is run in
            let q = next_of_order calls once taken c rest timed n r.once r.placed in
            let Q : StepOf → Type 0 = λ x. order ≡ so_far calls taken ++ x ∷ rest in
            let same : c ≡ step_at calls q.0 = same_call q.0 c q.1 q.2 in
            none q.0 q.2 start order rest d run (subst Q same is ∙ sym (append_assoc (so_far calls taken) (step_at calls q.0 ∷ []) rest))
          where
            same_call : (p : ℕ) (c : StepOf) → slice_get calls p ≡ Some c → (n : IsNext calls taken p) → c ≡ step_at calls p
            same_call p c at n = let e : n.call ≡ c = (let u = n.there in cc) in sym e ∙ sym (call_of_next calls taken p n)
