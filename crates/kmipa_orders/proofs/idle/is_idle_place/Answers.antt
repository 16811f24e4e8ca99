use Rattle.std.proofs.Common.{map, sym, subst, arith}
use Rattle.std.proofs.lemmas.Option.{get_or_from_slice_get}
use Rattle.kmipa_check.specs.Steps.{StepOf}
use Rattle.kmipa_orders.specs.Candidates.{candidate_step}
use Rattle.kmipa_orders.specs.Idle.{IsIdleStep}
use Rattle.kmipa_orders.specs.Taken.{no_step}
use Rattle.kmipa_check.proofs.PlaceLemmas.{mapped_at}
use Rattle.kmipa_orders.proofs.idle.is_idle_place.Goals as goal

pub returns : goal.returns
returns c = λ is.
    let I : StepOf → Type 0 = λ s. IsIdleStep s in
    let there = mapped_at candidate_step c.args.calls.now c.args.place c.index-calls-place.result (omega (arith, c.if-place-calls.false)) c.index-calls-place.is in
    subst I (sym (get_or_from_slice_get (map candidate_step c.args.calls.now) c.args.place (candidate_step c.index-calls-place.result) no_step there)) (c.is_idle_call.ensures is)
