use Rattle.kmipa_orders.proofs.HopelessLemmas.{same_there}
use Rattle.kmipa_orders.proofs.hopeless.are_one.Goals as goal

pub returns : goal.returns
returns c = same_there c.args.listed.now c.args.first c.args.second _ c.eq.result c.if-first-listed.false c.if-second-listed.false c.if-first-second.false c.eq.ensures
