use Rattle.kmipa_check.proofs.RecordedLemmas.{same_calls}
use Rattle.kmipa_check.proofs.laws.one_list_of_calls.Goals as goal

pub returns : goal.returns
returns c = λ marks calls others r a b. same_calls marks calls others r a b
