use Rattle.kmipa_orders.proofs.RefutedLemmas.{refuted_by_object_lem}
use Rattle.kmipa_orders.proofs.laws.refuted_by_object.Goals as goal

pub returns : goal.returns
returns c = refuted_by_object_lem c.check_laws.ensures
