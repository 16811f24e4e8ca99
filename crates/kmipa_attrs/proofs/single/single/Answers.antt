use Rattle.std.proofs.Common.{◌∙◌, sym, ap}
use Rattle.kmipa_ttlv.specs.ViewTree.{view_tree, view_trees}
use Rattle.kmipa_attrs.specs.Attributes.{folded}
use Rattle.kmipa_attrs.proofs.ViewLemmas.{each_none, folded_next}
use Rattle.kmipa_attrs.proofs.single.single.Goals as goal

pub children-preserved : goal.children-preserved
children-preserved g c = c.children.invariant ∙ folded_next g.T.Held.how c.args.tag (view_trees c.children.left) (view_trees c.next_of.new.self) (view_tree c.in-Some.child) c.children.found c.step-found.result c.of.result c.in-Some.ensures.next c.of.ensures c.step-found.ensures

pub returns : goal.returns
returns g c = sym (c.children.invariant ∙ ap (folded c.children.found) (each_none g.T.Held.how c.args.tag (view_trees c.children.left) c.in_default.ensures.next))
