use Rattle.kmipa_record.proofs.DeclarationLawLemmas.{no_fault_of_declaration_lem}
use Rattle.kmipa_record.proofs.laws.no_fault_of_declaration.Goals as goal

pub returns : goal.returns
returns c = no_fault_of_declaration_lem
