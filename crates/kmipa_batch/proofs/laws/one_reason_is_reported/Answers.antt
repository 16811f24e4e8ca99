use Rattle.kmipa_batch.proofs.RunLemmas.{one_reason_is_reported}
use Rattle.kmipa_batch.proofs.laws.one_reason_is_reported.Goals as goal

pub returns : goal.returns
returns c = one_reason_is_reported
