use Rattle.kmipa_batch.proofs.ComposeLemmas.{refusals_are_exact}
use Rattle.kmipa_batch.proofs.laws.refusals_are_exact.Goals as goal

pub returns : goal.returns
returns c = refusals_are_exact
