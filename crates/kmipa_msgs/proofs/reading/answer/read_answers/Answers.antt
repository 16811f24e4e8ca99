use Rattle.std.proofs.Common.{◌≡◌, length, arith, ◌∙◌, ◌+◌, ap, map, ℕ, Result, List}
use Rattle.std.proofs.lemmas.List.{length-map}
use Rattle.std.specs.List.{slice_get}
use Rattle.std.specs.Option.{option_map}
use Rattle.kmipa_ttlv.specs.Tree.{Tree}
use Rattle.kmipa_ttlv.specs.ViewTree.{view_tree, view_trees}
use Rattle.kmipa_attrs.specs.Fields.{every}
use Rattle.kmipa_attrs.specs.Tags.{batch_item}
use Rattle.kmipa_msgs.specs.declared.kind.OutsideKind.{OutsideKind}
use Rattle.kmipa_msgs.specs.declared.request.Ask.{Ask}
use Rattle.kmipa_msgs.specs.Messages.{AnswerOf, ask_of, answer_of, answers_of}
use Rattle.kmipa_msgs.specs.Replies.{answer_in}
use Rattle.kmipa_msgs.specs.Outside.{each_in, from_one}
use Rattle.kmipa_msgs.proofs.ItemLemmas.{items_found, items_faulty, items_done, meaning_more}
use Rattle.kmipa_msgs.proofs.ReplyLemmas.{asked_at}
use Rattle.kmipa_msgs.proofs.YieldsLemmas.{gives_unread}
use Rattle.kmipa_msgs.proofs.reading.answer.read_answers.Goals as goal

abbrev read : List Ask → ℕ → Tree → Result AnswerOf OutsideKind
read asks place = answer_in (slice_get (map ask_of asks) place)

pub returns-in-Err : goal.returns-in-Err
returns-in-Err c =
    let t = view_tree c.in-Some.child in
    let asks = c.args.asks.now in
    let place = c.len-place.result in
    let here : c.len-place.result ≡ length (answers_of c.children.answers) = omega (arith, c.len-place.ensures, c.children.answers.ok, length-map c.children.answers.items answer_of) in
    let ts = every batch_item (view_trees c.children.left) in
    let us = every batch_item (view_trees c.next_of.new.self) in
    let whole = from_one (each_in (read asks) (every batch_item (view_trees c.args.children))) in
    rw c.at.ensures (gives_unread answers_of answer_of (place + 1) c.in-Err.unread (answer_in (option_map (λ a. ask_of a.now) c.get.result) t) whole c.in-Err.ensures
    (λ k e. ap from_one c.children.invariant
    ∙ items_faulty (read asks) (answers_of c.children.answers) place k ts us t c.in-Some.ensures.next
    (e ∙ ap (λ a. answer_in a t) (asked_at asks place c.get.result c.get.ensures.lookup) ∙ ap (λ n. read asks n t) here) here))

pub children-preserved : goal.children-preserved
children-preserved c =
    let asks = c.args.asks.now in
    let t = view_tree c.in-Some.child in
    let place = c.len-place.result in
    let here : c.len-place.result ≡ length (answers_of c.children.answers) = omega (arith, c.len-place.ensures, c.children.answers.ok, length-map c.children.answers.items answer_of) in
    let ts = every batch_item (view_trees c.children.left) in
    let us = every batch_item (view_trees c.next_of.new.self) in
    let more = meaning_more answer_of c.children.answers.items c.push.new.self.items c.in-Ok.answer c.in_ok-push-in-Ok.ensures.items in
    c.children.invariant
    ∙ items_found (read asks) (answers_of c.children.answers) (answers_of c.push.new.self) (answer_of c.in-Ok.answer) ts us t c.in-Some.ensures.next
    (c.in-Ok.ensures ∙ ap (λ a. answer_in a t) (asked_at asks place c.get.result c.get.ensures.lookup) ∙ ap (λ n. read asks n t) here) more

pub returns : goal.returns
returns c = ap from_one c.children.invariant ∙ items_done (read c.args.asks.now) (answers_of c.children.answers) (every batch_item (view_trees c.children.left)) c.in_default.ensures.next
