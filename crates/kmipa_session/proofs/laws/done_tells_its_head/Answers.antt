use Rattle.kmipa_session.proofs.SealingLemmas.{done_tells_its_head_lem}
use Rattle.kmipa_session.proofs.laws.done_tells_its_head.Goals as goal

pub returns : goal.returns
returns c = done_tells_its_head_lem
