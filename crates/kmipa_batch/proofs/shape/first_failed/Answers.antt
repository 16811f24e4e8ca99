use Rattle.std.proofs.Common.{◌∙◌, ap, sym}
use Rattle.kmipa_msgs.specs.declared.response.Answer.{Answer}
use Rattle.kmipa_batch.proofs.ShapeLemmas.{none_more, first_found, none_found}
use Rattle.kmipa_batch.proofs.shape.first_failed.Goals as goal

pub returns-in-Failed : goal.returns-in-Failed
returns-in-Failed c =
    let answer = c.index-answers-place.result in
    first_found c.args.answers.now c.loop-place.place answer c.loop-place.invariant c.loop-place-test.true (ap (λ (a : Answer). a.status) (sym c.index-answers-place.is) ∙ c.in-Failed.is)

pub loop-place-preserved : goal.loop-place-preserved
loop-place-preserved c =
    let answer = c.index-answers-place.result in
    none_more c.args.answers.now c.loop-place.place answer c.loop-place.invariant c.loop-place-test.true (λ e. c.in_default.not-Failed (ap (λ (a : Answer). a.status) c.index-answers-place.is ∙ e))

pub returns : goal.returns
returns c = none_found c.args.answers.now c.loop-place.place c.loop-place.invariant c.loop-place-test.false
