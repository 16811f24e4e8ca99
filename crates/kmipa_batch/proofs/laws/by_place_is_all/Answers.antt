use Rattle.kmipa_batch.proofs.OrderLemmas.{by_place_is_all}
use Rattle.kmipa_batch.proofs.laws.by_place_is_all.Goals as goal

pub returns : goal.returns
returns c = by_place_is_all
