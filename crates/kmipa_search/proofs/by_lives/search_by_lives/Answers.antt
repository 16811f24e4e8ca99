use Rattle.std.proofs.Common.{arith}
use Rattle.kmipa_search.proofs.by_lives.search_by_lives.Goals as goal

pub returns-in-Some-clause-finds : goal.returns-in-Some-clause-finds
returns-in-Some-clause-finds c = λ marks r are plain. c.accepted_order.ensures.finds marks c.args.budget r are plain (omega (arith, c.if-steps-budget.false))
