use Rattle.kmipa_check.proofs.OneAnswerLemmas.{one_answer_lem}
use Rattle.kmipa_check.proofs.laws.one_answer.Goals as goal

pub returns : goal.returns
returns c = λ marks declared turns a b r h k. one_answer_lem marks declared turns r a b h k
