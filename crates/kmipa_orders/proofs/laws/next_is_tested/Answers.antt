use Rattle.kmipa_orders.proofs.NextTestLemmas.{next_is_tested_lem}
use Rattle.kmipa_orders.proofs.laws.next_is_tested.Goals as goal

pub returns : goal.returns
returns c = next_is_tested_lem
