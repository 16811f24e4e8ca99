use Rattle.kmipa_ops.proofs.FoundedLemmas.{founded_decides}
use Rattle.kmipa_ops.proofs.laws.founded_is_decided.Goals as goal

pub returns : goal.returns
returns c = founded_decides
