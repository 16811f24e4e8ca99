use Rattle.std.proofs.lemmas.Result.{err_from_is_err_and}
use Rattle.kmipa_record.proofs.mark_reading.read_on.Goals as goal

pub returns-in_err-read_start-clause-fault : goal.returns-in_err-read_start-clause-fault
returns-in_err-read_start-clause-fault g c = λ marks file given is.
    let p = err_from_is_err_and c.from_residual.result c.from_residual.ensures.1 in
    rw (p.1, p.2) (c.in_err-read_start.ensures.fault marks file given is)

pub returns-in-None-clause-given : goal.returns-in-None-clause-given
returns-in-None-clause-given g c = λ marks given. rw c.in-None.is (c.next_mark.ensures.given marks (rw c.in-None.is at (c.in_ok-read_start.ensures.given marks given)))

pub returns-in-None-clause-fault : goal.returns-in-None-clause-fault
returns-in-None-clause-fault g c = λ marks file given is. c.next_mark.ensures.fault marks file (rw c.in-None.is at (c.in_ok-read_start.ensures.given marks given)) is

pub returns-in-None-clause-over : goal.returns-in-None-clause-over
returns-in-None-clause-over g c = λ xs h. c.next_mark.ensures.over xs (c.read_start.ensures.over xs h)

pub returns-in-Some-clause-over : goal.returns-in-Some-clause-over
returns-in-Some-clause-over g c = λ xs h. c.next_sealed.ensures.over xs (c.read_start.ensures.over xs h)
