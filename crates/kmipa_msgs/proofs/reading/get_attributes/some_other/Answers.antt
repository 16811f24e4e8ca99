use Rattle.std.proofs.Common.{◌∙◌, sym}
use Rattle.kmipa_ttlv.specs.ViewTree.{view_tree, view_trees}
use Rattle.kmipa_msgs.proofs.GetAttributesLemmas.{other_found, other_passed, other_none}
use Rattle.kmipa_msgs.proofs.reading.get_attributes.some_other.Goals as goal

pub returns-then-is_other : goal.returns-then-is_other
returns-then-is_other c = sym (c.children.invariant ∙ other_found (view_trees c.children.left) (view_trees c.next.new.self) (view_tree c.in-Some.child) c.in-Some.ensures (sym c.if-is_other.ensures))

pub children-preserved : goal.children-preserved
children-preserved c = c.children.invariant ∙ other_passed (view_trees c.children.left) (view_trees c.next.new.self) (view_tree c.in-Some.child) c.in-Some.ensures (sym c.if-is_other.ensures)

pub returns : goal.returns
returns c = sym (c.children.invariant ∙ other_none (view_trees c.children.left) c.in_default.ensures.0)
