use Rattle.std.proofs.Common.{sym, ◌∙◌}
use Rattle.kmipa_check.specs.Steps.{step_of}
use Rattle.kmipa_stream.proofs.CountingLemmas.{told_more, untold_more}
use Rattle.kmipa_stream.proofs.counting.reported_with.Goals as goal

pub returns-in-None : goal.returns-in-None
returns-in-None c = λ unjudged steps is. untold_more steps (step_of c.args.step.now) unjudged (sym c.in-None.is ∙ is)

pub returns-in-Some : goal.returns-in-Some
returns-in-Some c = λ unjudged steps is.
    told_more steps (step_of c.args.step.now) unjudged c.in-Some.tally c.tallied_with.result c.tallied_with.ensures (sym c.in-Some.is ∙ is)
