use Rattle.kmipa_ops.proofs.OneInventoryLemmas.{taking_decides}
use Rattle.kmipa_ops.proofs.laws.taking_decides.Goals as goal

pub returns : goal.returns
returns c = taking_decides
