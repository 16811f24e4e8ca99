use Rattle.kmipa_places.proofs.CallLemmas.{one_call}
use Rattle.kmipa_places.proofs.laws.one_call.Goals as goal

pub returns : goal.returns
returns c = one_call
