use Rattle.kmipa_msgs.specs.Messages.{request_of, response_of}
use Rattle.kmipa_orders.specs.Idle.{AreIdleFrom}
use Rattle.kmipa_orders.proofs.idle.is_idle.Given as goal

abbrev pub invariant-items : goal.invariant-items
invariant-items l = AreIdleFrom (request_of l.request) (response_of l.response) l.place

abbrev pub decreases-items : goal.decreases-items
decreases-items l = l.place
