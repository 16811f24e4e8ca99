use Rattle.kmipa_outside.proofs.FindLemmas.{asked_demanded}
use Rattle.kmipa_outside.proofs.laws.asked_reasons_are_demanded.Goals as goal

pub returns : goal.returns
returns c = asked_demanded
