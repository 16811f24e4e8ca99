use Rattle.std.proofs.Common.{◌∙◌, ◌+◌, ℤ, List, map, OkIff, unsigned_abs, sym, subst, arith, ap, rules}
use mir.Val.{SFits}
use mir.Syntax.{w32}
use Rattle.std.proofs.lemmas.Int.{to_z-of_z}
use Rattle.std.proofs.lemmas.Result.{err_from_is_err_and}
use Rattle.std.specs.Int.{FitsUnsignedBits}
use Rattle.kmipa_record.specs.Witnesses.{turn_of}
use Rattle.kmipa_trail.specs.declared.fault.Fault.{Fault}
use Rattle.kmipa_turns.specs.declared.step.Step.{Step}
use Rattle.kmipa_check.specs.Grants.{grants_of}
use Rattle.kmipa_turns.specs.Steps.{StepOf, step_of}
use Rattle.kmipa_turns.specs.Recorded.{recorded_of}
use Rattle.kmipa_trail.specs.Ordering.{AreFormed, OrderFault}
use Rattle.kmipa_trail.proofs.OrderLemmas.{fault_reported, formed_more, formed_below, formed_whole, pushed_steps}
use Rattle.kmipa_check.proofs.WholeOrderLemmas.{reported_number}
use Rattle.kmipa_trail.proofs.MissingLemmas.{left_out_reported, missing_counted, order_reported}
use Rattle.kmipa_trail.proofs.order.steps_of.Goals as goal

pub returns-in-Err-clause-ordered : goal.returns-in-Err-clause-ordered
returns-in-Err-clause-ordered c = λ numbered once.
    let P : Fault → Type 0 = λ f. OrderFault (grants_of c.args.grants.now) (map recorded_of c.args.calls.now) (map turn_of c.args.turns.now) f in
    subst P (sym c.fault_at.ensures)
    (fault_reported (grants_of c.args.grants.now) (map recorded_of c.args.calls.now) (map turn_of c.args.turns.now) c.turns.place c.in-Err.fault
    (formed_below (grants_of c.args.grants.now) (map recorded_of c.args.calls.now) (map turn_of c.args.turns.now) c.turns.place (map step_of c.turns.steps.items) c.turns.invariant) c.in-Err.ensures)

pub returns-in_err-push-in-Ok-clause-ordered : goal.returns-in_err-push-in-Ok-clause-ordered
returns-in_err-push-in-Ok-clause-ordered c = λ numbered once.
    let p = err_from_is_err_and c.from_residual-in_err-push-in-Ok.result c.from_residual-in_err-push-in-Ok.ensures.1 in
    rw (p.1, p.2) tt

pub turns-preserved : goal.turns-preserved
turns-preserved c =
    let P : List StepOf → Type 0 = λ steps. AreFormed (grants_of c.args.grants.now) (map recorded_of c.args.calls.now) (map turn_of c.args.turns.now) (c.turns.place + 1) steps in
    subst P (sym (ap (λ (steps : List Step). map step_of steps) c.in_ok-push-in-Ok.ensures.items ∙ pushed_steps c.turns.steps.items c.in-Ok.step))
    (formed_more (grants_of c.args.grants.now) (map recorded_of c.args.calls.now) (map turn_of c.args.turns.now) c.turns.place (map step_of c.turns.steps.items) (step_of c.in-Ok.step) c.turns.invariant c.in-Ok.ensures)

pub returns-in-Some-clause-ordered : goal.returns-in-Some-clause-ordered
returns-in-Some-clause-ordered c = λ numbered once.
    let missing = sym c.left_out.ensures ∙ c.in-Some.is in
    let fits : SFits w32 c.in-Some.number = search rules in
    let P : ℤ → Type 0 = λ z. OkIff c.try_from.result (FitsUnsignedBits 64 z) (unsigned_abs z) in
    let reported = subst P (to_z-of_z w32 c.in-Some.number fits) c.try_from.ensures in
    left_out_reported (grants_of c.args.grants.now) c.args.turns.now c.in_ok-named.named c.in_ok-named.ensures (map recorded_of c.args.calls.now) (map step_of c.turns.steps.items) c.in-Some.number c.unwrap_or.result
    (formed_whole (grants_of c.args.grants.now) (map recorded_of c.args.calls.now) c.args.turns.now c.turns.place (map step_of c.turns.steps.items) c.turns.invariant (omega (arith, c.turns-test.false)))
    missing
    (reported_number c.try_from.result c.in-Some.number c.unwrap_or.result reported c.unwrap_or.ensures (missing_counted c.in_ok-named.named c.args.calls.now c.in-Some.number missing numbered) fits)

pub returns-clause-formed : goal.returns-clause-formed
returns-clause-formed c = formed_whole (grants_of c.args.grants.now) (map recorded_of c.args.calls.now) c.args.turns.now c.turns.place (map step_of c.turns.steps.items) c.turns.invariant (omega (arith, c.turns-test.false))

pub returns-clause-ordered : goal.returns-clause-ordered
returns-clause-ordered c = λ numbered once.
    order_reported (grants_of c.args.grants.now) c.args.turns.now c.in_ok-named.named c.in_ok-named.ensures (map recorded_of c.args.calls.now) (map step_of c.turns.steps.items)
    (formed_whole (grants_of c.args.grants.now) (map recorded_of c.args.calls.now) c.args.turns.now c.turns.place (map step_of c.turns.steps.items) c.turns.invariant (omega (arith, c.turns-test.false)))
    (sym c.left_out.ensures ∙ c.in-None.is)
