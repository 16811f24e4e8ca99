use Rattle.std.proofs.Common.{arith}
use Rattle.kmipa_trail.proofs.LateLemmas.{scanned_more}
use Rattle.kmipa_trail.proofs.late.first_late.Goals as goal

pub steps-preserved : goal.steps-preserved
steps-preserved c = record {
  scanned = scanned_more c.args.steps.now c.steps.place c.index-steps-place.result c.steps.least c.steps.late c.is_below.result c.least_of-least.result c.later_found-late.result
      c.steps-test.true c.steps.invariant.within c.index-steps-place.is c.is_below.ensures c.later_found-late.ensures c.least_of-least.ensures c.steps.invariant.scanned;
  within = omega (arith, c.steps.invariant.within);
}
