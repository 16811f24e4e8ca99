use Rattle.kmipa_check.proofs.ReadableLemmas.{step_readable}
use Rattle.kmipa_check.proofs.laws.step_is_readable.Goals as goal

pub returns : goal.returns
returns c = λ g marks d t s r i. step_readable g marks d t s r i
