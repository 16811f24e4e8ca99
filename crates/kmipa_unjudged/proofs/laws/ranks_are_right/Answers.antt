use Rattle.kmipa_unjudged.proofs.RankLemmas.{ranks_right}
use Rattle.kmipa_unjudged.proofs.laws.ranks_are_right.Goals as goal

pub returns : goal.returns
returns c = ranks_right
