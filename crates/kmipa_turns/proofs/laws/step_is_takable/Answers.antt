use Rattle.kmipa_turns.proofs.TakableLemmas.{step_takable}
use Rattle.kmipa_turns.proofs.laws.step_is_takable.Goals as goal

pub returns : goal.returns
returns c = step_takable
