use Rattle.kmipa_check.specs.Steps.{step_of}
use Rattle.kmipa_stream.proofs.CountingLemmas.{counts_more}
use Rattle.kmipa_stream.proofs.counting.counted_with.Goals as goal

pub returns : goal.returns
returns c = λ unjudged steps is.
    counts_more steps (step_of c.args.step.now) unjudged c.args.counts c.saturating_add.result c.answered_items.result c.reported_with.result is c.answered_items.ensures c.saturating_add.ensures
    (c.reported_with.ensures unjudged steps)
