use Rattle.kmipa_orders.proofs.ends.Ends.alike.Given as goal

abbrev pub decreases-chain : goal.decreases-chain
decreases-chain l = l.number
