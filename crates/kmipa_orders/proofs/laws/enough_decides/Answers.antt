use Rattle.kmipa_orders.proofs.AnswerLemmas.{enough_decides_lem}
use Rattle.kmipa_orders.proofs.laws.enough_decides.Goals as goal

pub returns : goal.returns
returns c = enough_decides_lem c.one_list_of_calls.ensures
