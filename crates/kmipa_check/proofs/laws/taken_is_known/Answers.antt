use Rattle.kmipa_check.proofs.RunLemmas.{taken_is_known_lem}
use Rattle.kmipa_check.proofs.laws.taken_is_known.Goals as goal

pub returns : goal.returns
returns c = λ declared steps s m n k e. taken_is_known_lem declared steps s m n k e
