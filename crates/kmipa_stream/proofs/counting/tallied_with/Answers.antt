use Rattle.kmipa_check.specs.Steps.{step_of}
use Rattle.kmipa_stream.proofs.CountingLemmas.{tally_more}
use Rattle.kmipa_stream.proofs.counting.tallied_with.Goals as goal

pub returns : goal.returns
returns c = λ steps is.
    tally_more steps (step_of c.args.step.now) c.args.tally _ c.judged_items-judged.result c.answered_items.result is c.judged_items-judged.ensures c.answered_items.ensures c.saturating_add.ensures c.saturating_add-2.ensures
