use Rattle.kmipa_session.proofs.ChainingLemmas.{told_failed}
use Rattle.kmipa_session.proofs.chaining.tell_memory.Goals as goal

pub returns : goal.returns
returns g c = told_failed c.tell.result c.tell.ensures
