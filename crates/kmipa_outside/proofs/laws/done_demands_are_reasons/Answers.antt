use Rattle.kmipa_outside.proofs.ReasonLemmas.{done_reasons}
use Rattle.kmipa_outside.proofs.laws.done_demands_are_reasons.Goals as goal

pub returns : goal.returns
returns c = done_reasons
