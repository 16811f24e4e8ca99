use Rattle.std.proofs.Common.{◌∙◌, map, refl, sym, arith}
use Rattle.std.proofs.lemmas.List.{length-map}
use Rattle.kmipa_msgs.specs.Messages.{answer_of}
use Rattle.kmipa_check.proofs.PlaceLemmas.{mapped_at}
use Rattle.kmipa_unfit.proofs.BelowLemmas.{each_more}
use Rattle.kmipa_unfit.proofs.FailedLemmas.{Right, first_found, none_found}
use Rattle.kmipa_unfit.proofs.orders.first_failed.Goals as goal

pub answers-preserved : goal.answers-preserved
answers-preserved c =
    each_more Right (map answer_of c.args.answers.now) c.answers.place (answer_of c.index-answers-place.result)
    (mapped_at answer_of c.args.answers.now c.answers.place c.index-answers-place.result c.answers-test.true c.index-answers-place.is)
    (sym c.has_failed.ensures ∙ c.if-has_failed.false) c.answers.invariant

pub returns-then-has_failed : goal.returns-then-has_failed
returns-then-has_failed c = (
  c.answers.place,
  refl,
  first_found (map answer_of c.args.answers.now) c.answers.place (answer_of c.index-answers-place.result)
      (mapped_at answer_of c.args.answers.now c.answers.place c.index-answers-place.result c.answers-test.true c.index-answers-place.is)
      (sym c.has_failed.ensures ∙ c.if-has_failed.true) c.answers.invariant,
)

pub returns : goal.returns
returns c = none_found (map answer_of c.args.answers.now) c.answers.place (omega (arith, c.answers-test.false, length-map c.args.answers.now answer_of)) c.answers.invariant
