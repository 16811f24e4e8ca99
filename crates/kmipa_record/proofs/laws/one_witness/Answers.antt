use Rattle.kmipa_record.proofs.WitnessLawLemmas.{one_witness_lem}
use Rattle.kmipa_record.proofs.laws.one_witness.Goals as goal

pub returns : goal.returns
returns c = one_witness_lem
