use Rattle.kmipa_bundle.proofs.FitLemmas.{none_more, first_found, none_found}
use Rattle.kmipa_bundle.proofs.shape.first_failed.Goals as goal

pub returns-in-Failed : goal.returns-in-Failed
returns-in-Failed c = first_found c.args.outcomes.now c.loop-place.place _ c.loop-place.invariant c.loop-place-test.true c.in-Failed.is

pub loop-place-preserved : goal.loop-place-preserved
loop-place-preserved c = none_more c.args.outcomes.now c.loop-place.place _ c.loop-place.invariant c.loop-place-test.true c.in_default.not-Failed

pub returns : goal.returns
returns c = none_found c.args.outcomes.now c.loop-place.place c.loop-place.invariant c.loop-place-test.false
