use Rattle.kmipa_record.proofs.TornLemmas.{sealed_ahead_lem}
use Rattle.kmipa_record.proofs.laws.sealed_ahead_of_close.Goals as goal

pub returns : goal.returns
returns c = sealed_ahead_lem
