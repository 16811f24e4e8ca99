use Rattle.std.proofs.Common.{◌≡◌, ◌<◌, ◌⊎◌, inl, inr, ℕ, ℤ, Bool, length, map, sym, subst, arith, to_z, of_z, w32}
use Rattle.std.specs.Prelude.{AllPairs}
use Rattle.std.proofs.lemmas.Int.{to_z-of_z}
use Rattle.std.proofs.lemmas.List.{length-map}
use Rattle.kmipa_check.specs.Deciding.{Decided}
use Rattle.kmipa_orders.specs.Candidates.{candidate_step}
use Rattle.kmipa_orders.specs.Far.{IsFarFromLater}
use Rattle.kmipa_orders.specs.Plain.{AreApart}
use Rattle.kmipa_orders.proofs.FarLemmas.{all_far, far_each}
use Rattle.kmipa_orders.proofs.LinksLemmas.{which}
use Rattle.kmipa_orders.proofs.forced.are_far.Goals as goal

pub returns-then-not-is_far : goal.returns-then-not-is_far
returns-then-not-is_far c = λ begun closed all.
    let calls = map candidate_step c.args.calls.now in
    let seconds = to_z w32 (of_z w32 c.args.tolerance) in
    let D : Bool → Type 0 = λ b. Decided b (IsFarFromLater seconds calls c.calls.first) in
    subst D c.if-not-is_far.true (c.is_far.ensures begun closed)
    (subst (λ (z : ℤ). IsFarFromLater z calls c.calls.first) (sym (to_z-of_z w32 c.args.tolerance c.ranges.tolerance)) (far_each c.args.tolerance calls all c.calls.first))

pub calls-preserved : goal.calls-preserved
calls-preserved c =
    let calls = map candidate_step c.args.calls.now in
    let seconds = to_z w32 (of_z w32 c.args.tolerance) in
    let D : Bool → Type 0 = λ b. Decided b (IsFarFromLater seconds calls c.calls.first) in
    let P : ℕ → Type 0 = λ n. IsFarFromLater seconds calls n in
    record {
      far = λ begun closed k below. elim (which k c.calls.first) [
        | inl h ↦ c.calls.invariant.far begun closed k h
        | inr g ↦ elim g [
          | inl e ↦ subst P (sym e) (subst D c.if-not-is_far.false (c.is_far.ensures begun closed))
          | inr h ↦ absurd (omega (arith, h, below))
        ]
      ];
    }

pub returns : goal.returns
returns c = λ begun closed.
    let calls = map candidate_step c.args.calls.now in
    let long : length c.args.calls.now ≡ length calls = sym (length-map c.args.calls.now candidate_step) in
    subst (λ (z : ℤ). AllPairs (AreApart z) calls) (to_z-of_z w32 c.args.tolerance c.ranges.tolerance)
    (all_far (to_z w32 (of_z w32 c.args.tolerance)) calls (λ first within. c.calls.invariant.far begun closed first (omega (arith, within, c.calls-test.false, long))))
