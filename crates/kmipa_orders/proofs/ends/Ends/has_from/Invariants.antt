use Rattle.kmipa_orders.proofs.ends.Ends.has_from.Given as goal

abbrev pub decreases-chain : goal.decreases-chain
decreases-chain g l = l.number
