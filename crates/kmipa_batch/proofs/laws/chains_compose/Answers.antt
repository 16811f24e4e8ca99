use Rattle.kmipa_batch.proofs.ComposeLemmas.{chains_compose}
use Rattle.kmipa_batch.proofs.laws.chains_compose.Goals as goal

pub returns : goal.returns
returns c = chains_compose
