use Rattle.kmipa_outside.proofs.ReasonLemmas.{asked_reasons}
use Rattle.kmipa_outside.proofs.laws.asked_demands_are_reasons.Goals as goal

pub returns : goal.returns
returns c = asked_reasons
