use Rattle.kmipa_ttlv.specs.ViewTree.{view_trees}
use Rattle.kmipa_ttlv.specs.Written.{sizes}
use Rattle.kmipa_judge.proofs.reduced.messages.push_views.Given as goal

abbrev pub decreases-children : goal.decreases-children
decreases-children l = sizes (view_trees l.left)
