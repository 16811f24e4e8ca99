use Rattle.kmipa_ops.proofs.ExplainLemmas.{blame_is_exact}
use Rattle.kmipa_ops.proofs.laws.blame_is_exact.Goals as goal

pub returns : goal.returns
returns c = blame_is_exact
