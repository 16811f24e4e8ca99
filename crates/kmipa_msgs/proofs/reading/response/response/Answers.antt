use Rattle.std.proofs.Common.{subst, Option, ◌≡◌, ◌∙◌, sym, ap, map, Ok, Err, List, Result, ℕ, rules}
use Rattle.std.proofs.lemmas.Int.{to_z-of_z}
use Rattle.std.specs.List.{slice_get}
use Rattle.kmipa_ttlv.specs.ViewTree.{view_tree, view_trees}
use Rattle.kmipa_attrs.specs.Fields.{every}
use Rattle.kmipa_attrs.specs.Readings.{map_ok}
use Rattle.kmipa_attrs.specs.Tags.{batch_item, response_header_tag, response_message}
use Rattle.kmipa_ttlv.specs.Tree.{Trees}
use Rattle.kmipa_msgs.specs.declared.kind.OutsideKind.{OutsideKind}
use Rattle.kmipa_msgs.specs.declared.request.Ask.{Ask}
use Rattle.kmipa_msgs.specs.Messages.{AnswerOf, ask_of, request_of, answers_of, response_of}
use Rattle.kmipa_msgs.specs.Outside.{each_in, from_one}
use Rattle.kmipa_msgs.specs.Replies.{answer_in}
use Rattle.kmipa_msgs.specs.Responses.{response_at, response_in}
use Rattle.kmipa_msgs.specs.Headers.{Opens}
use Rattle.kmipa_ttlv.specs.declared.view.Children.{Children}
use Rattle.kmipa_msgs.specs.declared.kind.OutsideKind.TheVariants.{NotAMessage}
use Rattle.std.proofs.lemmas.Result.{err_from_is_err_and}
use Rattle.kmipa_msgs.proofs.YieldsLemmas.{kind_left}
use Rattle.kmipa_msgs.proofs.OutsideLemmas.{gives_items}
use Rattle.kmipa_msgs.proofs.ResponseLemmas.{no_response, no_stamp, whole_response}
use mir.Val.{SFits}
use mir.Syntax.{w64}
use Rattle.kmipa_msgs.proofs.reading.response.response.Goals as goal

answers_at : Trees → List Ask → Result (List AnswerOf) (ℕ × OutsideKind)
answers_at ts asks = from_one (each_in (λ place. answer_in (slice_get (map ask_of asks) place)) (every batch_item ts))

pub returns-in_err-children : goal.returns-in_err-children
returns-in_err-children c =
    let P : Option (Children × Children) → Type 0 = λ o. Opens response_message response_header_tag (view_tree c.args.message.now) o in
    let none = subst P c.in_err-children.ensures.ok_part c.message_parts-parts.ensures in
    let kind = kind_left c.message_parts-parts.result NotAMessage c.in_err-children.field-0.0 c.in_err-children.ensures.value in
    let p = err_from_is_err_and c.from_residual.result c.from_residual.ensures.1 in
    rw (p.1, p.2, kind) (no_response (view_tree c.args.message.now) (request_of c.args.request.now) none)

pub returns-in_err-stamp : goal.returns-in_err-stamp
returns-in_err-stamp c =
    let P : Option (Children × Children) → Type 0 = λ o. Opens response_message response_header_tag (view_tree c.args.message.now) o in
    let opens = subst P c.in_ok-children.ensures.ok_part c.message_parts-parts.ensures in
    let count = c.item_count-count.ensures in
    let p = err_from_is_err_and c.from_residual-in_err-stamp.result c.from_residual-in_err-stamp.ensures.1 in
    rw (p.1, p.2) (no_stamp (view_tree c.args.message.now) (request_of c.args.request.now) (view_trees c.in_ok-children.children) (view_trees c.in_ok-children.header) c.item_count-count.result c.in_err-stamp.field-0.0 opens count c.in_err-stamp.ensures)

pub returns-in_err-items : goal.returns-in_err-items
unfolding answers_at
returns-in_err-items c =
    let P : Option (Children × Children) → Type 0 = λ o. Opens response_message response_header_tag (view_tree c.args.message.now) o in
    let opens = subst P c.in_ok-children.ensures.ok_part c.message_parts-parts.ensures in
    let count = c.item_count-count.ensures in
    let t = view_tree c.args.message.now in
    let ts = view_trees c.in_ok-children.children in
    let asked = request_of c.args.request.now in
    let e : c.from_residual-in_err-items.result ≡ Err c.in_err-items.field-0.0 = search rules in
    rw e (gives_items response_of answers_of (response_at c.in_ok-stamp.stamp) c.in_err-items.field-0.0 (answers_at ts c.deref.result.now) (response_in t asked) c.in_err-items.ensures
    (whole_response t asked ts (view_trees c.in_ok-children.header) c.item_count-count.result c.in_ok-stamp.stamp opens count c.in_ok-stamp.ensures
    ∙ ap (λ (xs : List Ask). map_ok (response_at c.in_ok-stamp.stamp) (answers_at ts xs)) (sym c.deref.ensures.value)))

pub returns : goal.returns
unfolding answers_at
returns c =
    let P : Option (Children × Children) → Type 0 = λ o. Opens response_message response_header_tag (view_tree c.args.message.now) o in
    let opens = subst P c.in_ok-children.ensures.ok_part c.message_parts-parts.ensures in
    let count = c.item_count-count.ensures in
    let ts = view_trees c.in_ok-children.children in
    let fits : SFits w64 c.in_ok-stamp.stamp = search rules in
    whole_response (view_tree c.args.message.now) (request_of c.args.request.now) ts (view_trees c.in_ok-children.header) c.item_count-count.result c.in_ok-stamp.stamp opens count c.in_ok-stamp.ensures
    ∙ ap (λ (xs : List Ask). map_ok (response_at c.in_ok-stamp.stamp) (answers_at ts xs)) (sym c.deref.ensures.value)
    ∙ ap (map_ok (response_at c.in_ok-stamp.stamp)) c.in_ok-items.ensures
    ∙ (λ i. Ok (response_at (sym (to_z-of_z w64 c.in_ok-stamp.stamp fits) i) (answers_of c.in_ok-items.items)))
