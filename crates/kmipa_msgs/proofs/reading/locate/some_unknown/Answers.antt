use Rattle.std.proofs.Common.{◌∙◌, sym}
use Rattle.kmipa_ttlv.specs.ViewTree.{view_trees}
use Rattle.kmipa_msgs.proofs.LocateLemmas.{unknown_found, unknown_passed, unknown_none}
use Rattle.kmipa_msgs.proofs.reading.locate.some_unknown.Goals as goal

pub returns-then-is_unknown : goal.returns-then-is_unknown
returns-then-is_unknown c = sym (c.children.invariant ∙ unknown_found (view_trees c.children.left) (view_trees c.next.new.self) c.in-Some.child c.in-Some.ensures (sym c.if-is_unknown.ensures))

pub children-preserved : goal.children-preserved
children-preserved c = c.children.invariant ∙ unknown_passed (view_trees c.children.left) (view_trees c.next.new.self) c.in-Some.child c.in-Some.ensures (sym c.if-is_unknown.ensures)

pub returns : goal.returns
returns c = sym (c.children.invariant ∙ unknown_none (view_trees c.children.left) c.in_default.ensures.0)
