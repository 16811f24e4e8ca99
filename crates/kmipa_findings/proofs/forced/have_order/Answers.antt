use Rattle.std.proofs.Common.{refl, arith}
use Rattle.kmipa_findings.proofs.EachLemmas.{each_more, each_past}
use Rattle.kmipa_findings.proofs.ChoiceLemmas.{IsOrdered, all_ordered}
use Rattle.kmipa_findings.proofs.forced.have_order.Goals as goal

pub steps-init : goal.steps-init
steps-init c = record { within = omega arith; each = each_past IsOrdered c.args.steps.now _ (omega arith) }

pub steps-preserved : goal.steps-preserved
steps-preserved c = record {
  within = omega (arith, c.steps.invariant.within);
  each = each_more IsOrdered c.args.steps.now c.steps.place c.in-Some.step.now c.steps-test.true c.steps.invariant.within c.in-Some.ensures.lookup.1 (c.if-not-has_order.ensures refl)
      c.steps.invariant.each;
}

pub returns : goal.returns
returns c = λ told. all_ordered c.args.steps.now c.steps.place (omega (arith, c.steps-test.false)) c.steps.invariant.each
