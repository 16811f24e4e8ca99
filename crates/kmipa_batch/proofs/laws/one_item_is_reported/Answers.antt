use Rattle.kmipa_batch.proofs.RunLemmas.{one_item_is_reported}
use Rattle.kmipa_batch.proofs.laws.one_item_is_reported.Goals as goal

pub returns : goal.returns
returns c = one_item_is_reported
