use Rattle.std.proofs.Common.{◌≡◌, ◌∙◌, ◌++◌, ◌∷◌, [], sym, ap, subst, map, take}
use Rattle.std.proofs.lemmas.List.{take_all, take_more}
use Rattle.kmipa_ttlv.specs.Tree.{Tree, structure, more, forest}
use Rattle.kmipa_ttlv.specs.ItemTree.{tree}
use Rattle.kmipa_attrs.specs.Tags.{request_message}
use Rattle.kmipa_msgs.specs.declared.request.Ask.{Ask}
use Rattle.kmipa_msgs.specs.Messages.{ask_of, request_of}
use Rattle.kmipa_msgs.specs.Written.{written_ask, written_request_header, written_request}
use Rattle.kmipa_msgs.specs.Requests.{SaysRequest}
use Rattle.kmipa_msgs.proofs.WritingLemmas.{one_more}
use Rattle.kmipa_msgs.proofs.WrittenRequestLemmas.{request_written}
use Rattle.kmipa_msgs.proofs.writing.request.write_request.Goals as goal

pub loop-ask-preserved : goal.loop-ask-preserved
loop-ask-preserved c =
    let asks = c.deref-ask-items.result.now in
    let i = c.loop-ask.ask-index in
    let x = c.ask-item.result in
    one_more ask_of written_ask (written_request_header (request_of c.args.request.now)) i asks x _ _ _
    (take_more asks i x c.loop-ask-test.true ∙ ap (λ (y : Ask). take i asks ++ y ∷ []) (sym c.ask-item.is)) c.loop-ask.invariant c.in_ok-write_ask.ensures c.in_ok-item-2.ensures

written : (c : goal.After-structure) → tree c.structure.result ≡ written_request (request_of c.args.request.now)
written c =
    let header = written_request_header (request_of c.args.request.now) in
    c.structure.ensures
    ∙ ap (structure request_message) (c.loop-ask.invariant ∙ ap (λ xs. more header (forest written_ask (map ask_of xs))) (take_all c.loop-ask.ask-index c.deref-ask-items.result.now c.loop-ask-test.false ∙ c.deref-ask-items.ensures.value))

pub returns-clause-order : goal.returns-clause-order
returns-clause-order c = written c

pub returns-clause-said : goal.returns-clause-said
returns-clause-said c = λ t h w.
    let request = request_of c.args.request.now in
    subst (λ (u : Tree). SaysRequest u request) (sym (written c)) (request_written t request h w)
