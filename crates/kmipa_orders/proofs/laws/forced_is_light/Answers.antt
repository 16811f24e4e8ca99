use Rattle.kmipa_orders.proofs.AnswerLemmas.{forced_is_light_lem}
use Rattle.kmipa_orders.proofs.laws.forced_is_light.Goals as goal

pub returns : goal.returns
returns c = forced_is_light_lem
