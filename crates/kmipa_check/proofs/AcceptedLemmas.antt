-- Where a witness is accepted, nothing but a yes can be reported of it.
use Rattle.std.proofs.Common.{◌≡◌, ◌<◌, ◌⊎◌, inl, inr, ℕ, ◌+◌, ◌≤ℤ◌, List, map, length, get_or, Some, slice_get, Result, Ok, Err, refl, subst, arith}
use Rattle.std.specs.Prelude.{AllPairs}
use Rattle.std.specs.Int.Signed.{clash_ℤ}
use Rattle.std.proofs.lemmas.Option.{get_or_from_slice_get, slice_get_within}
use Rattle.kmipa_record.specs.Marks.{MarkOf, AreRecorded}
use Rattle.kmipa_record.specs.Declarations.{DeclarationOf}
use Rattle.kmipa_record.specs.Witnesses.{TurnOf}
use Rattle.kmipa_check.specs.Grants.{grants_declared}
use Rattle.kmipa_check.specs.Steps.{StepOf}
use Rattle.kmipa_check.specs.Calls.{CallOf}
use Rattle.kmipa_check.specs.Orders.{IsOrder, WitnessFaultAt}
use Rattle.kmipa_check.specs.Runs.{Before, IsPlaced, IsAccepted, rules_declared}
use Rattle.kmipa_check.specs.Verdicts.{IsLate, RunsBack, IsPlacedAt, ArePlaced, late, runs_back, in_place, in_item, IsRefused, Checks}
use Rattle.kmipa_check.specs.declared.fault.CheckFault.{CheckFault}
use Rattle.kmipa_check.specs.declared.fault.CheckFault.TheVariants.{Outside, Witness, Memory}
use Rattle.kmipa_check.specs.declared.verdict.Refused.{Refused}
use Rattle.kmipa_check.specs.declared.verdict.Verdict.{Verdict}
use Rattle.kmipa_check.specs.declared.verdict.Verdict.TheVariants.{Yes, No}
use Rattle.kmipa_check.proofs.PlaceLemmas.{some_at}
use Rattle.kmipa_check.proofs.OnceLemmas.{IsOnce, once_pairs}
use Rattle.kmipa_check.proofs.WholeOrderLemmas.{number_of, one_order_lem}
use Rattle.kmipa_check.proofs.CheckLemmas.{calls_once}
use Rattle.kmipa_check.proofs.RecordedLemmas.{same_calls}
use Rattle.kmipa_check.proofs.FirstOutsideLemmas.{none_outside}
use Rattle.kmipa_check.proofs.WitnessFaultLemmas.{order_right}
use Rattle.kmipa_check.proofs.RefusedLemmas.{linked_at, goes_up}

pair_at : {X : Type 0} (R : X → X → Type 0) (xs : List X) (i j : ℕ) (x y : X) → AllPairs R xs → i < j → slice_get xs i ≡ Some x → slice_get xs j ≡ Some y → R x y
pair_at R xs i j x y all below p q =
    let A : _ → Type 0 = λ u. R u (get_or xs j x) in
    let B : _ → Type 0 = λ v. R x v in
    subst B (get_or_from_slice_get xs j y x q) (subst A (get_or_from_slice_get xs i x x p) (all i j x below (slice_get_within xs j y q)))

never_late : (order : List StepOf) (turn : ℕ) (c : StepOf) → IsPlaced order → slice_get order turn ≡ Some c → IsLate order turn c → ⊥
never_late order turn c p at l = pair_at (λ (a b : StepOf). ¬ (Before b a)) order turn l.0 c l.1 p.kept l.2 at l.3 l.4

never_back : (order : List StepOf) (turn : ℕ) (c : StepOf) → IsPlaced order → slice_get order turn ≡ Some c → RunsBack order turn c → ⊥
never_back order turn c p at l =
    clash_ℤ l.4 (pair_at (λ (a b : StepOf). a.response.stamp ≤ℤ b.response.stamp) order l.0 turn l.1 c p.stamped (omega (arith, l.2)) l.3 at)

placed_at : (order : List StepOf) (turn : ℕ) (c : StepOf) → IsPlaced order → slice_get order turn ≡ Some c → IsPlacedAt order turn c
placed_at order turn c p at = record { there = at; kept = never_late order turn c p at; stamped = never_back order turn c p at }

placed_below : (order : List StepOf) (turn : ℕ) → IsPlaced order → turn < length order → ArePlaced order turn
placed_below order turn p within t below = let c = some_at order t (omega (arith, below, within)) in (c.0, placed_at order t c.0 p c.1)

-- ---- one order

module _ (marks : List MarkOf) (declared : DeclarationOf) (turns : List TurnOf) (r : AreRecorded marks) (a : IsAccepted marks declared turns) where
  once : IsOnce (map number_of a.calls)
  once = once_pairs (map number_of a.calls) (calls_once marks a.calls r a.are)

  not_refused : (v : Refused) → IsRefused declared a.steps v → ⊥
  not_refused v h = elim h.refused [
    | in_place is p ↦ elim p [
      | late l w ↦ never_late a.steps h.turn h.call a.run.placed h.there l
      | runs_back k l w ↦ never_back a.steps h.turn h.call a.run.placed h.there l
    ]
    | in_item count item ↦
        let t = linked_at (rules_declared declared) a.start a.steps h.turn h.call a.run.last a.run.linked h.there in
        item.never (record {
          placed = placed_below a.steps h.turn a.run.placed (slice_get_within a.steps h.turn h.call h.there);
          here = placed_at a.steps h.turn h.call a.run.placed h.there;
          start = a.start;
          described = a.described;
          before = t.before;
          linked = t.linked;
          items = goes_up (rules_declared declared) t.before h.call t.after (count + 1) t.call;
        })
  ]

  pub accepted_is_yes_lem : (result : Result Verdict CheckFault) → Checks marks declared turns result → (result ≡ Ok Yes) ⊎ (result ≡ Err Memory)
  accepted_is_yes_lem (Ok Yes) h = inl refl
  accepted_is_yes_lem (Err Memory) h = inr refl
  accepted_is_yes_lem (Ok (No v)) h =
      let e : h.0 ≡ a.calls = same_calls marks h.0 a.calls r h.1 a.are in
      let P : List CallOf → Type 0 = λ calls. IsOrder (grants_declared declared) calls turns h.2.0 in
      let o = one_order_lem (grants_declared declared) a.calls turns h.2.0 a.steps once (subst P e h.2.1) a.order in
      let Q : List StepOf → Type 0 = λ order. IsRefused declared order v in
      absurd (not_refused v (subst Q o h.2.2))
  accepted_is_yes_lem (Err (Outside number side o)) h = absurd (none_outside marks r a.calls number side o.item o.kind a.are h)
  accepted_is_yes_lem (Err (Witness f)) h =
      let e : h.0 ≡ a.calls = same_calls marks h.0 a.calls r h.1 a.are in
      let P : List CallOf → Type 0 = λ calls. WitnessFaultAt (grants_declared declared) calls turns f.at f.kind in
      absurd (order_right (grants_declared declared) a.calls turns once a.steps f.at f.kind a.order (subst P e h.2))
