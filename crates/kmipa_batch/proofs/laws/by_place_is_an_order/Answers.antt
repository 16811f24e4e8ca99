use Rattle.kmipa_batch.proofs.OrderLemmas.{by_place_is_an_order}
use Rattle.kmipa_batch.proofs.laws.by_place_is_an_order.Goals as goal

pub returns : goal.returns
returns c = by_place_is_an_order
