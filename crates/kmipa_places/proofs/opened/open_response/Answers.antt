use Rattle.std.proofs.Common.{◌≡◌, ◌∙◌, ℤ, None, Option, sym, subst, rules}
use Rattle.std.proofs.lemmas.Int.{to_z-of_z}
use Rattle.kmipa_ttlv.specs.ViewTree.{view_tree, view_trees}
use Rattle.kmipa_ttlv.specs.declared.view.Children.{Children}
use Rattle.kmipa_attrs.specs.Tags.{response_header_tag, response_message}
use Rattle.kmipa_msgs.specs.Headers.{Opens}
use Rattle.kmipa_places.specs.Readings.{HasAnswered}
use Rattle.kmipa_places.proofs.OpenedLemmas.{no_response, fault_in_response, opened_response}
use mir.Val.{SFits}
use mir.Syntax.{w64}
use Rattle.kmipa_places.proofs.opened.open_response.Goals as goal

pub returns-in_err-children : goal.returns-in_err-children
returns-in_err-children c =
    let P : Option (Children × Children) → Type 0 = λ o. Opens response_message response_header_tag (view_tree c.args.response.now) o in
    let absent : c.message_parts.result ≡ None = search rules in
    let none : c.from_residual.result ≡ None = search rules in
    rw none (no_response (view_tree c.args.response.now) (subst P absent c.message_parts.ensures))

pub returns-in_default : goal.returns-in_default
returns-in_default c =
    fault_in_response (view_tree c.args.response.now) (view_trees c.in_ok-children.children) (view_trees c.in_ok-children.header) c.item_count-count.result c.in_default.field-0
    (c.in_ok-children.ensures, c.item_count-count.ensures) (sym c.in_default.is ∙ c.response_header.ensures)

pub returns : goal.returns
returns c =
    let u = view_tree c.args.response.now in
    let fits : SFits w64 c.in-Ok.stamp = search rules in
    let P : ℤ → Type 0 = λ z. HasAnswered u (record { stamp = z; count = c.item_count-count.result; children = c.in_ok-children.children }) in
    subst P (sym (to_z-of_z w64 c.in-Ok.stamp fits))
    (opened_response u (view_trees c.in_ok-children.header) (record { stamp = c.in-Ok.stamp; count = c.item_count-count.result; children = c.in_ok-children.children })
    (c.in_ok-children.ensures, c.item_count-count.ensures) c.in-Ok.ensures)
