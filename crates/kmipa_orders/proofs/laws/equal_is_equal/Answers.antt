use Rattle.kmipa_orders.proofs.EndLemmas.{equal_is_equal}
use Rattle.kmipa_orders.proofs.laws.equal_is_equal.Goals as goal

pub returns : goal.returns
returns c = equal_is_equal
