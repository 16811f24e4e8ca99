use Rattle.std.proofs.Common.{◌∙◌, sym, true, false}
use Rattle.kmipa_ttlv.specs.ViewTree.{view_trees}
use Rattle.kmipa_attrs.proofs.LifeLemmas.{life_next, life_none}
use Rattle.kmipa_attrs.proofs.reading.tells_of_life.Goals as goal

pub returns-then-is_of_life : goal.returns-then-is_of_life
returns-then-is_of_life c = sym (c.children.invariant ∙ life_next (view_trees c.children.left) (view_trees c.next.new.self) c.in-Some.child true c.in-Some.ensures (sym c.if-is_of_life.ensures))

pub children-preserved : goal.children-preserved
children-preserved c = c.children.invariant ∙ life_next (view_trees c.children.left) (view_trees c.next.new.self) c.in-Some.child false c.in-Some.ensures (sym c.if-is_of_life.ensures)

pub returns : goal.returns
returns c = sym (c.children.invariant ∙ life_none (view_trees c.children.left) c.in_default.ensures.0)
