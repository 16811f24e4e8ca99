use Rattle.kmipa_orders.proofs.open.related.due_here.Given as goal

abbrev pub decreases-due : goal.decreases-due
decreases-due l = l.end
