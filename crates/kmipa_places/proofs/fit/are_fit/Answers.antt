use Rattle.std.proofs.Common.{◌≡◌, ◌∙◌, true, false, Option, IfNone, sym, ap, subst, rules}
use Rattle.kmipa_ttlv.specs.Tree.{none}
use Rattle.kmipa_ttlv.specs.ViewTree.{view_tree, view_trees}
use Rattle.kmipa_ttlv.specs.declared.view.View.{View}
use Rattle.kmipa_attrs.specs.Fields.{every}
use Rattle.kmipa_attrs.specs.Tags.{batch_item}
use Rattle.kmipa_places.proofs.FitLemmas.{fit_next, fit_not}
use Rattle.kmipa_places.proofs.UnreadLemmas.{no_items}
use Rattle.kmipa_places.proofs.fit.are_fit.Goals as goal

pub returns-then-not-branch : goal.returns-then-not-branch
returns-then-not-branch c =
    let Q : Option View → Type 0 = λ r. IfNone r (view_trees c.next_of-in-Some.new.self ≡ none) in
    let no : c.in_ok-fits_at.field-0 ≡ false = search rules in
    fit_not (every batch_item (view_trees c.items.asks)) (every batch_item (view_trees c.next_of-in-Some.new.self)) (every batch_item (view_trees c.items.left)) (every batch_item (view_trees c.next_of.new.self))
    (every batch_item (view_trees c.args.asked)) (every batch_item (view_trees c.args.answered)) c.next_of-in-Some.result (view_tree c.in-Some.answer) c.operation_in-operation.result c.next_of-in-Some.ensures.next
    (λ e. ap (every batch_item) (subst Q e c.next_of-in-Some.ensures.end) ∙ no_items batch_item) c.operation_in-operation.ensures c.in-Some.ensures.next
    (λ f. (let bad : false ≡ true = sym no ∙ c.in_ok-fits_at.ensures.1 f in cc)) c.items.invariant

pub items-preserved : goal.items-preserved
items-preserved c =
    let Q : Option View → Type 0 = λ r. IfNone r (view_trees c.next_of-in-Some.new.self ≡ none) in
    let yes : c.in_ok-fits_at.field-0 ≡ true = search rules in
    fit_next (every batch_item (view_trees c.items.asks)) (every batch_item (view_trees c.next_of-in-Some.new.self)) (every batch_item (view_trees c.items.left)) (every batch_item (view_trees c.next_of.new.self))
    (every batch_item (view_trees c.args.asked)) (every batch_item (view_trees c.args.answered)) c.next_of-in-Some.result (view_tree c.in-Some.answer) c.operation_in-operation.result c.next_of-in-Some.ensures.next
    (λ e. ap (every batch_item) (subst Q e c.next_of-in-Some.ensures.end) ∙ no_items batch_item) c.operation_in-operation.ensures c.in-Some.ensures.next
    (c.in_ok-fits_at.ensures.0 yes) c.items.invariant
