use Rattle.kmipa_orders.proofs.HopelessLemmas.{hopeless_explains_nothing_lem}
use Rattle.kmipa_orders.proofs.laws.hopeless_explains_nothing.Goals as goal

pub returns : goal.returns
returns c = hopeless_explains_nothing_lem c.check_laws.ensures
