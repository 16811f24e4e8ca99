use Rattle.kmipa_runs.proofs.LawLemmas.{items_have_no_fault_lem}
use Rattle.kmipa_runs.proofs.laws.items_have_no_fault.Goals as goal

pub returns : goal.returns
returns c = items_have_no_fault_lem
