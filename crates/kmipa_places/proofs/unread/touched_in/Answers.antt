use Rattle.std.proofs.Common.{◌≡◌, ◌∙◌, ◌++◌, map, Option, IfNone, sym, ap, subst}
use Rattle.std.specs.Option.{option_map}
use Rattle.kmipa_ttlv.specs.Tree.{none}
use Rattle.kmipa_ttlv.specs.ViewTree.{view_tree, view_trees}
use Rattle.kmipa_ttlv.specs.declared.view.View.{View}
use Rattle.kmipa_attrs.specs.Fields.{every}
use Rattle.kmipa_attrs.specs.Tags.{batch_item}
use Rattle.kmipa_passed.specs.Identifiers.{asked_of}
use Rattle.kmipa_places.proofs.UnreadLemmas.{no_items, touched_step}
use Rattle.kmipa_places.proofs.unread.touched_in.Goals as goal

pub items-preserved : goal.items-preserved
items-preserved c =
    let Q : Option View → Type 0 = λ r. IfNone r (view_trees c.next_of-in-Some.new.self ≡ none) in
    sym (touched_step c.items.ids.items c.extend_from_slice.new.self.items c.in-Some-2.names.items
    (every batch_item (view_trees c.items.left)) (every batch_item (view_trees c.items.answers)) (every batch_item (view_trees c.next_of.new.self)) (every batch_item (view_trees c.next_of-in-Some.new.self))
    (view_tree c.in-Some.item) c.next_of-in-Some.result (asked_of c.shown_by-shown.result) c.in-Some.ensures.next c.next_of-in-Some.ensures.next
    (λ e. ap (every batch_item) (subst Q e c.next_of-in-Some.ensures.end) ∙ no_items batch_item)
    c.shown_by-shown.ensures (sym (ap (option_map (λ v. map (λ s. s.now) v.items)) c.in-Some-2.is) ∙ c.in_ok-names.ensures)
    (c.in_ok-extend_from_slice.ensures.items ∙ ap (λ xs. c.items.ids.items ++ xs) c.deref.ensures.value))
    ∙ c.items.invariant
