use Rattle.kmipa_check.proofs.NextLemmas.{placed_one_by_one_lem}
use Rattle.kmipa_check.proofs.laws.placed_one_by_one.Goals as goal

pub returns : goal.returns
returns c = λ steps. placed_one_by_one_lem steps
