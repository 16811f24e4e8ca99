use Rattle.kmipa_bundle.proofs.ChainLemmas.{deeds_compose}
use Rattle.kmipa_bundle.proofs.laws.deeds_compose.Goals as goal

pub returns : goal.returns
returns c = deeds_compose
