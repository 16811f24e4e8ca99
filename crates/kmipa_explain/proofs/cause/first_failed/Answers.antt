use Rattle.std.proofs.Common.{◌∙◌, map, sym, arith}
use Rattle.std.proofs.lemmas.List.{length-map}
use Rattle.kmipa_msgs.specs.Messages.{answer_of}
use Rattle.kmipa_check.proofs.PlaceLemmas.{mapped_at}
use Rattle.kmipa_explain.proofs.FailedLemmas.{fails, first_found, none_failed}
use Rattle.kmipa_explain.proofs.KeptLemmas.{none_all, none_first, none_more}
use Rattle.kmipa_explain.proofs.cause.first_failed.Goals as goal

pub answers-init : goal.answers-init
answers-init c = none_first fails (map answer_of c.args.answers.now)

pub answers-preserved : goal.answers-preserved
answers-preserved c =
    none_more fails (map answer_of c.args.answers.now) c.answers.place (answer_of c.index-answers-place.result)
    (mapped_at answer_of c.args.answers.now c.answers.place c.index-answers-place.result c.answers-test.true c.index-answers-place.is)
    (sym c.if-has_failed.false ∙ c.has_failed.ensures) c.answers.invariant

pub returns-then-has_failed : goal.returns-then-has_failed
returns-then-has_failed c =
    first_found (map answer_of c.args.answers.now) c.answers.place (answer_of c.index-answers-place.result)
    (mapped_at answer_of c.args.answers.now c.answers.place c.index-answers-place.result c.answers-test.true c.index-answers-place.is)
    (sym c.if-has_failed.true ∙ c.has_failed.ensures) c.answers.invariant

pub returns : goal.returns
returns c = none_failed (map answer_of c.args.answers.now) (none_all fails (map answer_of c.args.answers.now) c.answers.place (omega (arith, c.answers-test.false, length-map c.args.answers.now answer_of)) c.answers.invariant)
