use Rattle.std.proofs.Common.{subst, Option, ◌≡◌, ◌∙◌, ap, Err, rules}
use Rattle.kmipa_ttlv.specs.ViewTree.{view_tree, view_trees}
use Rattle.kmipa_attrs.specs.Fields.{every}
use Rattle.kmipa_attrs.specs.Readings.{map_ok}
use Rattle.kmipa_attrs.specs.Tags.{batch_item, request_header_tag, request_message}
use Rattle.kmipa_msgs.specs.Messages.{asks_of, request_of}
use Rattle.kmipa_msgs.specs.Outside.{each_in, from_one}
use Rattle.kmipa_msgs.specs.Asks.{item_in}
use Rattle.kmipa_msgs.specs.Requests.{header_at, request_at, request_in}
use Rattle.kmipa_msgs.specs.Headers.{Opens}
use Rattle.kmipa_ttlv.specs.declared.view.Children.{Children}
use Rattle.kmipa_msgs.specs.declared.kind.OutsideKind.TheVariants.{NotAMessage}
use Rattle.std.proofs.lemmas.Result.{err_from_is_err_and}
use Rattle.kmipa_msgs.proofs.YieldsLemmas.{kind_left}
use Rattle.kmipa_msgs.proofs.OutsideLemmas.{gives_items}
use Rattle.kmipa_msgs.proofs.RequestLemmas.{no_request, no_header, loose_as_said, whole_request}
use Rattle.kmipa_msgs.proofs.reading.request.request.Goals as goal

pub returns-in_err-children : goal.returns-in_err-children
returns-in_err-children c =
    let P : Option (Children × Children) → Type 0 = λ o. Opens request_message request_header_tag (view_tree c.args.message.now) o in
    let none = subst P c.in_err-children.ensures.ok_part c.message_parts-parts.ensures in
    let kind = kind_left c.message_parts-parts.result NotAMessage c.in_err-children.field-0.0 c.in_err-children.ensures.value in
    let p = err_from_is_err_and c.from_residual.result c.from_residual.ensures.1 in
    rw (p.1, p.2, kind) (no_request (view_tree c.args.message.now) none)

pub returns-in_err-option : goal.returns-in_err-option
returns-in_err-option c =
    let P : Option (Children × Children) → Type 0 = λ o. Opens request_message request_header_tag (view_tree c.args.message.now) o in
    let opens = subst P c.in_ok-children.ensures.ok_part c.message_parts-parts.ensures in
    let count = c.item_count-count.ensures in
    let p = err_from_is_err_and c.from_residual-in_err-option.result c.from_residual-in_err-option.ensures.1 in
    rw (p.1, p.2) (no_header (view_tree c.args.message.now) (view_trees c.in_ok-children.children) (view_trees c.in_ok-children.header) c.item_count-count.result c.in_err-option.field-0.0 opens count c.in_err-option.ensures)

pub returns-in_err-items : goal.returns-in_err-items
returns-in_err-items c =
    let P : Option (Children × Children) → Type 0 = λ o. Opens request_message request_header_tag (view_tree c.args.message.now) o in
    let opens = subst P c.in_ok-children.ensures.ok_part c.message_parts-parts.ensures in
    let count = c.item_count-count.ensures in
    let t = view_tree c.args.message.now in
    let ts = view_trees c.in_ok-children.children in
    let e : c.from_residual-in_err-items.result ≡ Err c.in_err-items.field-0.0 = search rules in
    rw e (gives_items request_of asks_of (request_at (header_at (c.in_ok-option.option, c.in_ok-option.ordered))) c.in_err-items.field-0.0 (from_one (each_in (λ place. item_in c.lacks_order-unordered.result) (every batch_item ts))) (request_in t) c.in_err-items.ensures
    (whole_request t ts (view_trees c.in_ok-children.header) c.item_count-count.result c.lacks_order-unordered.result (c.in_ok-option.option, c.in_ok-option.ordered) opens count (c.lacks_order-unordered.ensures ∙ loose_as_said (view_trees c.in_ok-children.header) c.item_count-count.result (c.in_ok-option.option, c.in_ok-option.ordered) c.in_ok-option.ensures) c.in_ok-option.ensures))

pub returns : goal.returns
returns c =
    let P : Option (Children × Children) → Type 0 = λ o. Opens request_message request_header_tag (view_tree c.args.message.now) o in
    let opens = subst P c.in_ok-children.ensures.ok_part c.message_parts-parts.ensures in
    let count = c.item_count-count.ensures in
    whole_request (view_tree c.args.message.now) (view_trees c.in_ok-children.children) (view_trees c.in_ok-children.header) c.item_count-count.result c.lacks_order-unordered.result (c.in_ok-option.option, c.in_ok-option.ordered) opens count (c.lacks_order-unordered.ensures ∙ loose_as_said (view_trees c.in_ok-children.header) c.item_count-count.result (c.in_ok-option.option, c.in_ok-option.ordered) c.in_ok-option.ensures) c.in_ok-option.ensures
    ∙ ap (map_ok (request_at (header_at (c.in_ok-option.option, c.in_ok-option.ordered)))) c.in_ok-items.ensures
