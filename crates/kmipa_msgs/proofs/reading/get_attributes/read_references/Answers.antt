use Rattle.std.proofs.Common.{◌∙◌, ◌++◌, sym, ap, ℕ, List}
use Rattle.kmipa_ttlv.specs.ViewTree.{view_tree, view_trees}
use Rattle.kmipa_msgs.specs.GetsAttributes.{references}
use Rattle.kmipa_msgs.proofs.GetAttributesLemmas.{references_met, references_passed, references_done}
use Rattle.kmipa_msgs.proofs.reading.get_attributes.read_references.Goals as goal

pub children-preserved-in-Continue-1 : goal.children-preserved-in-Continue-1
children-preserved-in-Continue-1 c =
    let us = view_trees c.next_of.new.self in
    c.children.invariant
    ∙ references_met c.children.tags.items (view_trees c.children.left) us (view_tree c.in-Some.child) c.in-Some-as_enumeration.tag c.in-Some.ensures.next c.in-Some-as_enumeration.ensures
    ∙ ap (λ (ns : List ℕ). ns ++ references us) (sym c.in_ok-push.ensures.items)

pub children-preserved : goal.children-preserved
children-preserved c =
    c.children.invariant
    ∙ references_passed c.children.tags.items (view_trees c.children.left) (view_trees c.next_of.new.self) (view_tree c.in-Some.child) c.in-Some.ensures.next c.in_default-as_enumeration.ensures

pub returns : goal.returns
returns c = sym (c.children.invariant ∙ references_done c.children.tags.items (view_trees c.children.left) c.in_default.ensures.next)
