use Rattle.kmipa_unfit.specs.OrderFinding.{HasItem}
use Rattle.kmipa_unfit.proofs.BelowLemmas.{below_more}
use Rattle.kmipa_unfit.proofs.orders.first_left.Goals as goal

pub items-preserved : goal.items-preserved
items-preserved c = below_more (HasItem c.args.numbers.now) c.items.place c.if-not-has_item.ensures c.items.invariant
