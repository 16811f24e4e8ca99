use Rattle.kmipa_record.proofs.WitnessLawLemmas.{no_fault_of_witness_lem}
use Rattle.kmipa_record.proofs.laws.no_fault_of_witness.Goals as goal

pub returns : goal.returns
returns c = no_fault_of_witness_lem
