use Rattle.std.proofs.Common.{◌≡◌, ◌<◌, ◌+ℤ◌, inl, ℤ, Bool, length, map, sym, subst, ◌∙◌, arith, to_z, of_z, w32}
use Rattle.std.proofs.lemmas.Int.{to_z-of_z}
use Rattle.std.proofs.lemmas.List.{length-map}
use Rattle.kmipa_check.specs.Deciding.{Decided}
use Rattle.kmipa_check.specs.Moments.{IsNear}
use Rattle.kmipa_orders.specs.Candidates.{candidate_step}
use Rattle.kmipa_orders.specs.Far.{IsFarFromLater}
use Rattle.kmipa_orders.specs.Plain.{AreApart}
use Rattle.kmipa_orders.specs.Taken.{step_at}
use Rattle.kmipa_orders.proofs.CandidateLemmas.{candidates_ended}
use Rattle.kmipa_orders.proofs.FarLemmas.{ended_first, one_more, open_and_near}
use Rattle.kmipa_orders.proofs.forced.is_far.Goals as goal

pub returns-then-ends_before : goal.returns-then-ends_before
returns-then-ends_before c = λ begun closed.
    let calls = map candidate_step c.args.calls.now in
    let long : length c.args.calls.now ≡ length calls = sym (length-map c.args.calls.now candidate_step) in
    subst (λ (z : ℤ). IsFarFromLater z calls c.args.first) (to_z-of_z w32 c.args.tolerance c.ranges.tolerance)
    (ended_first (to_z w32 (of_z w32 c.args.tolerance)) calls begun closed (candidates_ended c.args.calls.now) c.args.first c.later.second c.later.invariant.behind (omega (arith, c.later-test.true, long))
    (sym c.ends_before.ensures ∙ c.if-ends_before.true) c.later.invariant.apart)

pub returns-then-are_near : goal.returns-then-are_near
returns-then-are_near c = λ begun closed far.
    let calls = map candidate_step c.args.calls.now in
    let long : length c.args.calls.now ≡ length calls = sym (length-map c.args.calls.now candidate_step) in
    let seconds = to_z w32 (of_z w32 c.args.tolerance) in
    let N : Bool → Type 0 = λ b. Decided b (IsNear (seconds +ℤ seconds) (step_at calls c.args.first).response.stamp (step_at calls c.later.second).response.stamp) in
    open_and_near seconds calls begun closed (candidates_ended c.args.calls.now) c.args.first c.later.second c.later.invariant.behind (omega (arith, c.later-test.true, long))
    (sym c.ends_before.ensures ∙ c.if-ends_before.false) (subst N c.if-are_near.true c.are_near.ensures)
    (subst (λ (z : ℤ). IsFarFromLater z calls c.args.first) (sym (to_z-of_z w32 c.args.tolerance c.ranges.tolerance)) far)

pub later-preserved : goal.later-preserved
later-preserved c =
    let calls = map candidate_step c.args.calls.now in
    let seconds = to_z w32 (of_z w32 c.args.tolerance) in
    let N : Bool → Type 0 = λ b. Decided b (IsNear (seconds +ℤ seconds) (step_at calls c.args.first).response.stamp (step_at calls c.later.second).response.stamp) in
    record {
      behind = omega arith;
      apart = one_more seconds calls c.args.first c.later.second c.later.invariant.apart (inl (subst N c.if-are_near.false c.are_near.ensures));
    }

pub returns : goal.returns
returns c = λ begun closed q later within.
    let calls = map candidate_step c.args.calls.now in
    let long : length c.args.calls.now ≡ length calls = sym (length-map c.args.calls.now candidate_step) in
    subst (λ (z : ℤ). AreApart z (step_at calls c.args.first) (step_at calls q)) (to_z-of_z w32 c.args.tolerance c.ranges.tolerance)
    (c.later.invariant.apart q later (omega (arith, within, c.later-test.false, long)))
