use Rattle.std.proofs.Common.{arith}
use Rattle.kmipa_turns.specs.Steps.{step_of}
use Rattle.kmipa_findings.proofs.missed.is_behind.Goals as goal

pub returns : goal.returns
returns c = λ yes count taken board. (
  record {
    other = c.args.at.soonest;
    left = c.has.ensures.left count taken board c.if-has.false;
    differs = λ e. omega (arith, e, c.if-at-place.false);
    a = step_of c.in-Some.first.now;
    at = c.in-Some.ensures.some;
    b = step_of c.in-Some-step_at.step.now;
    here = c.in-Some-step_at.ensures.some;
    ahead = c.is_before.ensures yes;
  },
  omega (arith, c.if-at-place.false),
)
