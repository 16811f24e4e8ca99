use Rattle.kmipa_check.proofs.AcceptedLemmas.{accepted_is_yes_lem}
use Rattle.kmipa_check.proofs.laws.accepted_is_yes.Goals as goal

pub returns : goal.returns
returns c = λ marks declared turns result r a h. accepted_is_yes_lem marks declared turns r a result h
