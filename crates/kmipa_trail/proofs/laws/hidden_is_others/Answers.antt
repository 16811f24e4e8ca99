use Rattle.kmipa_trail.proofs.OwnershipLemmas.{hidden_others}
use Rattle.kmipa_trail.proofs.laws.hidden_is_others.Goals as goal

pub returns : goal.returns
returns c = hidden_others
