use Rattle.std.proofs.Common.{◌∙◌, ◌∷◌, [], List, ℕ, sym, ap, map}
use Rattle.std.proofs.lemmas.List.{map-append}
use Rattle.kmipa_ttlv.specs.ViewTree.{view_tree, view_trees}
use Rattle.kmipa_msgs.specs.Messages.{lent}
use Rattle.kmipa_msgs.specs.Locates.{located_in}
use Rattle.kmipa_msgs.proofs.LocateLemmas.{behind, located_met, located_wrong, located_done}
use Rattle.kmipa_msgs.proofs.reading.locate.read_located.Goals as goal

pub returns-in_default-as_text : goal.returns-in_default-as_text
returns-in_default-as_text c =
    sym (c.children.invariant ∙ located_wrong (map lent c.children.ids.items) (view_trees c.children.left) (view_trees c.next_of.new.self) (view_tree c.in-Some.child) c.in-Some.ensures.next c.in_default-as_text.ensures)

pub children-preserved : goal.children-preserved
children-preserved c =
    let ts = view_trees c.children.left in
    let us = view_trees c.next_of.new.self in
    let ids = c.children.ids.items in
    c.children.invariant
    ∙ located_met (map lent ids) ts us (view_tree c.in-Some.child) (lent c.in-Some-as_text.id) c.in-Some.ensures.next c.in-Some-as_text.ensures
    ∙ ap (λ (xs : List (List ℕ)). behind xs (located_in us)) (sym (ap (map lent) c.in_ok-push.ensures.items ∙ map-append lent ids (c.in-Some-as_text.id ∷ [])))

pub returns : goal.returns
returns c = sym (c.children.invariant ∙ located_done (map lent c.children.ids.items) (view_trees c.children.left) c.in_default.ensures.next)
