use Rattle.std.proofs.Common.{◌≡◌, ◌∙◌, None, Option, sym, subst, rules}
use Rattle.kmipa_ttlv.specs.ViewTree.{view_tree, view_trees}
use Rattle.kmipa_ttlv.specs.declared.view.Children.{Children}
use Rattle.kmipa_attrs.specs.Tags.{request_header_tag, request_message}
use Rattle.kmipa_msgs.specs.Headers.{Opens}
use Rattle.kmipa_places.proofs.OpenedLemmas.{no_request, fault_in_request, opened_request}
use Rattle.kmipa_places.proofs.opened.open_request.Goals as goal

pub returns-in_err-children : goal.returns-in_err-children
returns-in_err-children c =
    let P : Option (Children × Children) → Type 0 = λ o. Opens request_message request_header_tag (view_tree c.args.request.now) o in
    let absent : c.message_parts.result ≡ None = search rules in
    let none : c.from_residual.result ≡ None = search rules in
    rw none (no_request (view_tree c.args.request.now) (subst P absent c.message_parts.ensures))

pub returns-in_default : goal.returns-in_default
returns-in_default c =
    fault_in_request (view_tree c.args.request.now) (view_trees c.in_ok-children.children) (view_trees c.in_ok-children.header) c.item_count-count.result c.in_default.field-0
    (c.in_ok-children.ensures, c.item_count-count.ensures) (sym c.in_default.is ∙ c.request_header.ensures)

pub returns : goal.returns
returns c =
    opened_request (view_tree c.args.request.now) (view_trees c.in_ok-children.header) _ (c.in_ok-children.ensures, c.item_count-count.ensures) c.in-Ok.ensures c.lacks_order.ensures c.allows_pending.ensures
