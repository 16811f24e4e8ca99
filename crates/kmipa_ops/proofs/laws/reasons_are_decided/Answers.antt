use Rattle.kmipa_ops.proofs.ReasonLemmas.{reasons_are_decided}
use Rattle.kmipa_ops.proofs.laws.reasons_are_decided.Goals as goal

pub returns : goal.returns
returns c = reasons_are_decided
