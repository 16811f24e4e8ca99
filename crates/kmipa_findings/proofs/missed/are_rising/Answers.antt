use Rattle.std.proofs.Common.{refl, arith}
use Rattle.kmipa_findings.proofs.MissedLemmas.{rising_all, rising_next, rising_none}
use Rattle.kmipa_findings.proofs.missed.are_rising.Goals as goal

pub trials-init : goal.trials-init
trials-init c = rising_none c.args.trials.now

pub trials-preserved : goal.trials-preserved
trials-preserved c =
    rising_next c.args.trials.now c.trials.place c.trials.most c.begin_at-most.result c.trials.invariant (c.if-not-begins_from.ensures refl) c.begin_at-most.ensures.mark c.begin_at-most.ensures.begin

pub returns : goal.returns
returns c = λ yes. rising_all c.args.trials.now c.trials.place c.trials.most (omega (arith, c.trials-test.false)) c.trials.invariant
