use Rattle.kmipa_msgs.specs.Messages.{maybe_lent, request_of, response_of, rules_of}
use Rattle.kmipa_ops.specs.Placeholders.{placeholder_of}
use Rattle.kmipa_batch.specs.Calls.{pairs_of}
use Rattle.kmipa_batch.specs.Orders.{order_given}
use Rattle.kmipa_batch.specs.Running.{places_of}
use Rattle.kmipa_batch.proofs.RunLemmas.{Along}
use Rattle.kmipa_batch.proofs.along.take_along.Given as goal

abbrev pub invariant-loop-position : goal.invariant-loop-position
invariant-loop-position g l = Along (rules_of l.call.rules.now) l.call.response.now.stamp (g.L.Ledger.state l.fn.ledger) (pairs_of (request_of l.call.request.now) (response_of l.call.response.now)) (places_of (order_given (maybe_lent l.fn.places)) l.fn.count) l.position (g.L.Ledger.state l.ledger) (placeholder_of l.placeholder)
