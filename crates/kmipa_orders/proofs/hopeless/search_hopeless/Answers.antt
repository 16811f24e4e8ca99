use Rattle.std.proofs.Common.{arith}
use Rattle.kmipa_orders.proofs.hopeless.search_hopeless.Goals as goal

pub returns-clause-finds : goal.returns-clause-finds
returns-clause-finds c = λ marks declared r are. c.found_hopeless.ensures.finds marks declared c.args.budget (omega (arith, c.if-budget-lt-EARLY.false)) r are
