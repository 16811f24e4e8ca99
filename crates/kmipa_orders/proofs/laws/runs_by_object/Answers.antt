use Rattle.kmipa_orders.proofs.PartLemmas.{runs_by_object_lem}
use Rattle.kmipa_orders.proofs.laws.runs_by_object.Goals as goal

pub returns : goal.returns
returns c = runs_by_object_lem
