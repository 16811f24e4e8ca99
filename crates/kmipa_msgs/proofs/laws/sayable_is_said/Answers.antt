use Rattle.kmipa_msgs.proofs.SayableLemmas.{sayable_is_said}
use Rattle.kmipa_msgs.proofs.laws.sayable_is_said.Goals as goal

pub returns : goal.returns
returns c = sayable_is_said
