use Rattle.std.proofs.Common.{◌∙◌, ap}
use Rattle.kmipa_ttlv.specs.ViewTree.{view_trees}
use Rattle.kmipa_outside.specs.Demands.{all_at, first_fails}
use Rattle.kmipa_outside.proofs.DemandLemmas.{fails_first}
use Rattle.kmipa_outside.proofs.failing.fails.Goals as goal

pub returns-in_default : goal.returns-in_default
returns-in_default c =
    c.first_fails.ensures ∙ ap (first_fails c.args.wanted) c.first_at.ensures
    ∙ fails_first c.args.wanted (all_at c.args.step (view_trees c.args.children)) c.in_default.not-EachTyped c.in_default.not-EachName c.in_default.not-Once
