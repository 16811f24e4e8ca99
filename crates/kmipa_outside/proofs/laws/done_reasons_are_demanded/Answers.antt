use Rattle.kmipa_outside.proofs.FindLemmas.{done_demanded}
use Rattle.kmipa_outside.proofs.laws.done_reasons_are_demanded.Goals as goal

pub returns : goal.returns
returns c = done_demanded
