use Rattle.std.proofs.Common.{arith}
use Rattle.std.proofs.lemmas.Result.{err_from_is_err_and}
use Rattle.kmipa_ttlv.specs.Input.{came_of}
use Rattle.kmipa_record.proofs.WritingLemmas.{starts_on}
use Rattle.kmipa_record.proofs.sealed_reading.next_sealed.Goals as goal

pub returns-in_err-given-clause-fault : goal.returns-in_err-given-clause-fault
returns-in_err-given-clause-fault g c = λ marks file run is.
    let p = err_from_is_err_and c.from_residual.result c.from_residual.ensures.1 in
    rw (p.1, p.2) (c.in_err-given.ensures.fault marks file (c.records.invariant.run marks run) is)

pub returns-in-Given-clause-given : goal.returns-in-Given-clause-given
returns-in-Given-clause-given g c = λ marks run. rw c.in-Given.is at (c.in_ok-given.ensures.given marks (c.records.invariant.run marks run))

pub returns-in-End-clause-given : goal.returns-in-End-clause-given
returns-in-End-clause-given g c = λ marks run. rw c.in-End.is at (c.in_ok-given.ensures.given marks (c.records.invariant.run marks run))

pub records-preserved : goal.records-preserved
records-preserved g c = record {
  run = λ marks run. rw c.in-Passed.is at (c.in_ok-given.ensures.given marks (c.records.invariant.run marks run));
  bounded = c.in_ok-given.ensures.bounded;
  further = let n = rw c.in-Passed.is at c.in_ok-given.ensures.nearer in let more = n tt in omega (arith, c.records.invariant.further, more);
  grows = starts_on (came_of c.args.input.now) (came_of c.records.input) (came_of c.next_step.new.input) c.records.invariant.grows c.next_step.ensures.grows;
  over = λ xs h. c.in_ok-given.ensures.over xs (c.records.invariant.over xs h);
}
