use Rattle.kmipa_trail.proofs.AcceptedLemmas.{accepted_is_yes_lem}
use Rattle.kmipa_trail.proofs.laws.accepted_is_yes.Goals as goal

pub returns : goal.returns
returns c = λ marks declared turns tally result recorded accepted checks. accepted_is_yes_lem marks declared turns tally recorded accepted result checks
