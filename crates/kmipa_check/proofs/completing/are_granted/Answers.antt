use Rattle.kmipa_ttlv.specs.ViewTree.{view_trees}
use Rattle.kmipa_check.specs.Grants.{grants_of}
use Rattle.kmipa_check.proofs.BornLemmas.{granted_all, granted_next, granted_not}
use Rattle.kmipa_check.proofs.completing.are_granted.Goals as goal

pub returns-then-not-is_granted : goal.returns-then-not-is_granted
returns-then-not-is_granted c =
    granted_not (grants_of c.args.grants.now) (view_trees c.args.children) (view_trees c.children.left) (view_trees c.next.new.self) c.in-Some.child c.in-Some.ensures c.if-not-is_granted.ensures c.children.invariant

pub children-preserved : goal.children-preserved
children-preserved c =
    granted_next (grants_of c.args.grants.now) (view_trees c.args.children) (view_trees c.children.left) (view_trees c.next.new.self) c.in-Some.child c.in-Some.ensures c.if-not-is_granted.ensures c.children.invariant

pub returns : goal.returns
returns c = granted_all (grants_of c.args.grants.now) (view_trees c.args.children) (view_trees c.children.left) c.in_default.ensures.0 c.children.invariant
