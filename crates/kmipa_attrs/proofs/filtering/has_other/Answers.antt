use Rattle.std.proofs.Common.{◌∙◌, sym, true, false}
use Rattle.kmipa_ttlv.specs.ViewTree.{view_trees}
use Rattle.kmipa_attrs.proofs.FilterLemmas.{other_next, other_none}
use Rattle.kmipa_attrs.proofs.filtering.has_other.Goals as goal

pub returns-then-is_other : goal.returns-then-is_other
returns-then-is_other c = sym (c.children.invariant ∙ other_next (view_trees c.children.left) (view_trees c.next.new.self) c.in-Some.child true c.in-Some.ensures (sym c.if-is_other.ensures))

pub children-preserved : goal.children-preserved
children-preserved c = c.children.invariant ∙ other_next (view_trees c.children.left) (view_trees c.next.new.self) c.in-Some.child false c.in-Some.ensures (sym c.if-is_other.ensures)

pub returns : goal.returns
returns c = sym (c.children.invariant ∙ other_none (view_trees c.children.left) c.in_default.ensures.0)
