use Rattle.std.proofs.Common.{List, map, refl, subst, arith}
use Rattle.std.proofs.lemmas.List.{take_all}
use Rattle.kmipa_orders.specs.Candidates.{candidate_step}
use Rattle.kmipa_orders.specs.Progress.{AllReadable}
use Rattle.kmipa_orders.specs.declared.candidate.Candidate.{Candidate}
use Rattle.kmipa_orders.proofs.PartLemmas.{readable_so_far}
use Rattle.kmipa_orders.proofs.by_object.are_readable.Goals as goal

pub calls-preserved : goal.calls-preserved
calls-preserved c =
    readable_so_far candidate_step c.args.calls.now c.calls.call-index c.call-item.result c.calls-test.true c.call-item.is c.calls.invariant (c.if-not-is_readable_call.ensures.0 refl)

pub returns : goal.returns
returns c = λ e.
    let P : List Candidate → Type 0 = λ xs. AllReadable (map candidate_step xs) in
    subst P (take_all c.calls.call-index c.args.calls.now (omega (arith, c.calls-test.false))) c.calls.invariant
