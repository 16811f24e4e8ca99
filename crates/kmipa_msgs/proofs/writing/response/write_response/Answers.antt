use Rattle.std.proofs.Common.{◌≡◌, ◌∙◌, ◌++◌, ◌∷◌, [], sym, ap, subst, map, take}
use Rattle.std.proofs.lemmas.List.{take_all, take_more}
use Rattle.kmipa_ttlv.specs.Tree.{Tree, structure, more, forest}
use Rattle.kmipa_ttlv.specs.ItemTree.{tree}
use Rattle.kmipa_attrs.specs.Tags.{response_message}
use Rattle.kmipa_msgs.specs.declared.response.Answer.{Answer}
use Rattle.kmipa_msgs.specs.Messages.{answer_of, response_of}
use Rattle.kmipa_msgs.specs.Written.{written_answer, written_response_header, written_response}
use Rattle.kmipa_msgs.specs.Responses.{SaysResponse}
use Rattle.kmipa_msgs.proofs.WritingLemmas.{one_more}
use Rattle.kmipa_msgs.proofs.WrittenResponseLemmas.{response_written}
use Rattle.kmipa_msgs.proofs.writing.response.write_response.Goals as goal

pub loop-answer-preserved : goal.loop-answer-preserved
loop-answer-preserved c =
    let answers = c.deref-answer-items.result.now in
    let i = c.loop-answer.answer-index in
    let x = c.answer-item.result in
    one_more answer_of written_answer (written_response_header (response_of c.args.response.now)) i answers x _ _ _
    (take_more answers i x c.loop-answer-test.true ∙ ap (λ (y : Answer). take i answers ++ y ∷ []) (sym c.answer-item.is)) c.loop-answer.invariant c.in_ok-write_answer.ensures c.in_ok-item-2.ensures

written : (c : goal.After-structure) → tree c.structure.result ≡ written_response (response_of c.args.response.now)
written c =
    let header = written_response_header (response_of c.args.response.now) in
    c.structure.ensures
    ∙ ap (structure response_message) (c.loop-answer.invariant ∙ ap (λ xs. more header (forest written_answer (map answer_of xs))) (take_all c.loop-answer.answer-index c.deref-answer-items.result.now c.loop-answer-test.false ∙ c.deref-answer-items.ensures.value))

pub returns-clause-order : goal.returns-clause-order
returns-clause-order c = written c

pub returns-clause-said : goal.returns-clause-said
returns-clause-said c = λ t request h w.
    let response = response_of c.args.response.now in
    subst (λ (u : Tree). SaysResponse u request response) (sym (written c)) (response_written t request response h w)
