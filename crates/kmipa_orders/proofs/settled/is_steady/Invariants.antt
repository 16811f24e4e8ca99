use Rattle.kmipa_msgs.specs.Messages.{request_of, response_of}
use Rattle.kmipa_orders.specs.Settled.{AreSteadyFrom}
use Rattle.kmipa_orders.proofs.settled.is_steady.Given as goal

abbrev pub invariant-items : goal.invariant-items
invariant-items l = AreSteadyFrom (request_of l.request) (response_of l.response) l.place

abbrev pub decreases-items : goal.decreases-items
decreases-items l = l.place
