use Rattle.kmipa_record.proofs.DeclarationLawLemmas.{one_declaration_fault_lem}
use Rattle.kmipa_record.proofs.laws.one_declaration_fault.Goals as goal

pub returns : goal.returns
returns c = one_declaration_fault_lem
