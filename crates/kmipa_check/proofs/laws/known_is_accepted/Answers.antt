use Rattle.kmipa_check.proofs.NextLemmas.{known_is_accepted_lem}
use Rattle.kmipa_check.proofs.laws.known_is_accepted.Goals as goal

pub returns : goal.returns
returns c = λ marks declared calls turns steps m are made once placed known sound. known_is_accepted_lem marks declared calls turns steps m are made once placed known sound
