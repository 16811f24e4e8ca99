use Rattle.kmipa_ops.proofs.GetAttributesLemmas.{attributes_are_decided}
use Rattle.kmipa_ops.proofs.laws.attributes_are_decided.Goals as goal

pub returns : goal.returns
returns c = attributes_are_decided
