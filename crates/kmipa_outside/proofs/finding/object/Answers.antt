use Rattle.std.proofs.Common.{◌∙◌, sym}
use Rattle.kmipa_ttlv.specs.ViewTree.{view_trees}
use Rattle.kmipa_msgs.proofs.ObjectLemmas.{object_found, object_passed, object_none}
use Rattle.kmipa_outside.proofs.finding.object.Goals as goal

pub returns-then-is_object : goal.returns-then-is_object
returns-then-is_object c = sym (c.children.invariant ∙ object_found (view_trees c.children.left) (view_trees c.next.new.self) c.in-Some.child c.in-Some.ensures (sym c.if-is_object.ensures))

pub children-preserved : goal.children-preserved
children-preserved c = c.children.invariant ∙ object_passed (view_trees c.children.left) (view_trees c.next.new.self) c.in-Some.child c.in-Some.ensures (sym c.if-is_object.ensures)

pub returns : goal.returns
returns c = sym (c.children.invariant ∙ object_none (view_trees c.children.left) c.in_default.ensures.0)
