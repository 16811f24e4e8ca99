use Rattle.kmipa_ops.proofs.OneInventoryLemmas.{stands_for_one}
use Rattle.kmipa_ops.proofs.laws.stands_for_one.Goals as goal

pub returns : goal.returns
returns c = stands_for_one
