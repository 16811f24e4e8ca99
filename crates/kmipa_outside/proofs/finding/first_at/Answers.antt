use Rattle.std.proofs.Common.{◌∙◌, sym, ap}
use Rattle.kmipa_ttlv.specs.ViewTree.{view_trees}
use Rattle.kmipa_outside.specs.Demands.{all_at, first_in}
use Rattle.kmipa_outside.specs.declared.demand.Step.{Step}
use Rattle.kmipa_outside.proofs.DemandLemmas.{first_every}
use Rattle.kmipa_outside.proofs.finding.first_at.Goals as goal

pub returns-in-Tag : goal.returns-in-Tag
returns-in-Tag c =
    let ts = view_trees c.args.children in
    c.first.ensures ∙ first_every c.in-Tag.tag ts ∙ sym (ap (λ (step : Step). first_in (all_at step ts)) c.in-Tag.is)
