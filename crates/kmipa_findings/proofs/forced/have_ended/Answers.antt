use Rattle.std.proofs.Common.{refl, arith}
use Rattle.kmipa_findings.proofs.EachLemmas.{each_more, each_past}
use Rattle.kmipa_findings.proofs.ChoiceLemmas.{IsDone, all_ended}
use Rattle.kmipa_findings.proofs.forced.have_ended.Goals as goal

pub calls-init : goal.calls-init
calls-init c = record { within = omega arith; each = each_past IsDone c.args.calls.now _ (omega arith) }

pub calls-preserved : goal.calls-preserved
calls-preserved c = record {
  within = omega (arith, c.calls.invariant.within);
  each = each_more IsDone c.args.calls.now c.calls.place c.in-Some.call.now c.calls-test.true c.calls.invariant.within c.in-Some.ensures.lookup.1 (c.if-not-has_ended.ensures refl)
      c.calls.invariant.each;
}

pub returns : goal.returns
returns c = λ told. all_ended c.args.calls.now c.calls.place (omega (arith, c.calls-test.false)) c.calls.invariant.each
