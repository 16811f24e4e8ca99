use Rattle.kmipa_bundle.proofs.ChainLemmas.{refusals_are_exact}
use Rattle.kmipa_bundle.proofs.laws.refusals_are_exact.Goals as goal

pub returns : goal.returns
returns c = refusals_are_exact
