use Rattle.std.proofs.Common.{◌+ℤ◌, ℤ, get_or, map, sym, subst, w32}
use Rattle.std.proofs.lemmas.Int.{to_z-of_z}
use Rattle.std.proofs.lemmas.Option.{get_or_from_slice_get}
use Rattle.kmipa_check.specs.Deciding.{Decided}
use Rattle.kmipa_check.specs.Moments.{IsNear}
use Rattle.kmipa_check.specs.Steps.{StepOf}
use Rattle.kmipa_check.proofs.PlaceLemmas.{mapped_at}
use Rattle.kmipa_orders.specs.Candidates.{candidate_step}
use Rattle.kmipa_orders.specs.Taken.{no_step}
use Rattle.kmipa_orders.proofs.forced.are_near.Goals as goal

pub returns : goal.returns
returns c =
    let calls = map candidate_step c.args.calls.now in
    let one = candidate_step c.index-calls-first.result in
    let other = candidate_step c.index-calls-second.result in
    let first = mapped_at candidate_step c.args.calls.now c.args.first c.index-calls-first.result c.requires.first c.index-calls-first.is in
    let second = mapped_at candidate_step c.args.calls.now c.args.second c.index-calls-second.result c.requires.second c.index-calls-second.is in
    let P : StepOf → Type 0 = λ s. Decided c.are_within.result (IsNear (c.args.tolerance +ℤ c.args.tolerance) s.response.stamp other.response.stamp) in
    let Q : StepOf → StepOf → Type 0 = λ s t. Decided c.are_within.result (IsNear (c.args.tolerance +ℤ c.args.tolerance) s.response.stamp t.response.stamp) in
    subst (λ (t : StepOf). Q (get_or calls c.args.first no_step) t) (sym (get_or_from_slice_get calls c.args.second other no_step second))
    (subst P (sym (get_or_from_slice_get calls c.args.first one no_step first))
    (subst (λ (z : ℤ). Decided c.are_within.result (IsNear (z +ℤ z) one.response.stamp other.response.stamp)) (to_z-of_z w32 c.args.tolerance c.ranges.tolerance) c.are_within.ensures))
