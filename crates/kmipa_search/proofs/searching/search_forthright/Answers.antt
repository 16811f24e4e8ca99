use Rattle.std.proofs.Common.{arith}
use Rattle.kmipa_search.proofs.searching.search_forthright.Goals as goal

pub returns-clause-finds : goal.returns-clause-finds
returns-clause-finds c = λ marks r are plain. c.accepted_order.ensures.finds marks c.args.budget r are plain (omega (arith, c.if-steps-budget.false))
