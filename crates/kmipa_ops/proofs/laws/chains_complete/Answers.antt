use Rattle.kmipa_ops.proofs.ExplainLemmas.{chains_complete}
use Rattle.kmipa_ops.proofs.laws.chains_complete.Goals as goal

pub returns : goal.returns
returns c = chains_complete
