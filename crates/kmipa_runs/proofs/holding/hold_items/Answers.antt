use Rattle.std.proofs.lemmas.Result.{err_from_is_err_and}
use Rattle.kmipa_ttlv.specs.Input.{came_of, is_ended, is_failed}
use Rattle.kmipa_runs.proofs.InputLemmas.{first_fault}
use Rattle.kmipa_runs.proofs.holding.hold_items.Goals as goal

pub returns-in_err-hold_next-clause-fault : goal.returns-in_err-hold_next-clause-fault
returns-in_err-hold_next-clause-fault g c = λ file is.
    let p = err_from_is_err_and c.from_residual.result c.from_residual.ensures.1 in
    let old = came_of c.items.input in
    let input = c.hold_next.new.input in
    let items = c.items.invariant.items in
    rw (p.1, p.2) (first_fault old (came_of input) file is.0 items.0 (is_ended input) (is_failed input) c.in_err-hold_next.field-0.0
    items.1 c.hold_next.ensures.grows is.1 is.2 c.in_err-hold_next.ensures.fault)
