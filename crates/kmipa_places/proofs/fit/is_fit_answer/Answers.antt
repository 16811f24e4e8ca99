use Rattle.std.proofs.Common.{◌≡◌, ◌↔◌, ◌∙◌, false, true, IfOk, IsTrue, Option, Some, sym, ap, subst, []}
use Rattle.kmipa_ttlv.specs.Tree.{Tree}
use Rattle.kmipa_ttlv.specs.ViewTree.{view_tree, view_trees}
use Rattle.kmipa_attrs.specs.Fields.{every}
use Rattle.kmipa_attrs.specs.Tags.{batch_item}
use Rattle.kmipa_places.specs.Calls.{message_of}
use Rattle.kmipa_places.specs.Fits.{IsFitAnswer}
use Rattle.kmipa_places.specs.Unread.{IsUnread}
use Rattle.kmipa_places.proofs.FitLemmas.{fit_call, unread_misfits}
use Rattle.kmipa_places.proofs.fit.is_fit_answer.Goals as goal

pub returns-then-is_unread : goal.returns-then-is_unread
returns-then-is_unread c = unread_misfits (message_of c.args.request) (message_of c.args.answer) (c.is_unread.ensures.0 c.if-is_unread.true)

pub returns-in-Some-Some : goal.returns-in-Some-Some
returns-in-Some-Some c =
    let t = view_tree c.in-Some-Some.request.now in
    let u = view_tree c.in-Some-Some.answer.now in
    let te : message_of c.args.request ≡ Some t = ap message_of c.in-Some-Some.is-0 in
    let ue : message_of c.args.answer ≡ Some u = ap message_of c.in-Some-Some.is-1 in
    let P : Option Tree → Type 0 = λ x. IfOk c.are_fit.result (λ reported. IsTrue reported ↔ IsFitAnswer x (message_of c.args.answer)) in
    let Q : Option Tree → Type 0 = λ y. IfOk c.are_fit.result (λ reported. IsTrue reported ↔ IsFitAnswer (Some t) y) in
    let R : Option Tree → Type 0 = λ x. (IsTrue c.is_unread.result ↔ IsUnread x (message_of c.args.answer) []) in
    let S : Option Tree → Type 0 = λ y. (IsTrue c.is_unread.result ↔ IsUnread (Some t) y []) in
    let unread = subst S ue (subst R te c.is_unread.ensures) in
    subst P (sym te) (subst Q (sym ue)
    (fit_call t u (every batch_item (view_trees c.children_of.result)) (every batch_item (view_trees c.children_of-in-Some-Some.result)) c.are_fit.result
    (λ w. (let bad : false ≡ true = sym c.if-is_unread.false ∙ unread.1 w in cc)) (ap (every batch_item) c.children_of.ensures) (ap (every batch_item) c.children_of-in-Some-Some.ensures) c.are_fit.ensures))
