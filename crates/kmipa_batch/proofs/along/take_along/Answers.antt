use Rattle.std.proofs.Common.{sym, subst, Err}
use Rattle.kmipa_store.specs.Ledger.{LedgerState}
use Rattle.kmipa_msgs.specs.Messages.{maybe_lent, request_of, response_of, rules_of}
use Rattle.kmipa_ops.specs.Placeholders.{placeholder_of}
use Rattle.kmipa_batch.specs.declared.refusal.CallRefusal.{CallRefusal}
use Rattle.kmipa_batch.specs.Calls.{pairs_of}
use Rattle.kmipa_batch.specs.Orders.{order_given}
use Rattle.kmipa_batch.specs.Running.{AlongTaken, places_of}
use Rattle.kmipa_batch.proofs.OrderLemmas.{order_at}
use Rattle.kmipa_batch.proofs.RunLemmas.{along_more, along_stops}
use Rattle.kmipa_batch.proofs.along.take_along.Goals as goal

pub returns-in-Err : goal.returns-in-Err
returns-in-Err g c =
    let s : LedgerState = g.L.Ledger.state c.args.ledger.now in
    let v : LedgerState = g.L.Ledger.state c.take_pair.new.ledger in
    let pairs = pairs_of (request_of c.args.call.request.now) (response_of c.args.call.response.now) in
    let order = places_of (order_given (maybe_lent c.args.places)) c.args.count in
    let P : CallRefusal → Type 0 = λ r. AlongTaken (rules_of c.args.call.rules.now) c.args.call.response.now.stamp s pairs order (Err r) v in
    subst P (sym c.reported_at.ensures)
    (along_stops (rules_of c.args.call.rules.now) c.args.call.response.now.stamp s pairs order
    c.loop-position.position (g.L.Ledger.state c.loop-position.ledger) (placeholder_of c.loop-position.placeholder) c.loop-position.invariant
    c.place_at-place.result (order_at (maybe_lent c.args.places) c.args.count c.loop-position.position c.place_at-place.result c.loop-position-test.true c.place_at-place.ensures.there)
    c.in-Err.refusal v (placeholder_of c.take_pair.new.placeholder) c.in-Err.ensures)

pub loop-position-preserved : goal.loop-position-preserved
loop-position-preserved g c =
    along_more (rules_of c.args.call.rules.now) c.args.call.response.now.stamp (g.L.Ledger.state c.args.ledger.now) (pairs_of (request_of c.args.call.request.now) (response_of c.args.call.response.now))
    (places_of (order_given (maybe_lent c.args.places)) c.args.count)
    c.loop-position.position (g.L.Ledger.state c.loop-position.ledger) (placeholder_of c.loop-position.placeholder) c.loop-position.invariant
    c.place_at-place.result (order_at (maybe_lent c.args.places) c.args.count c.loop-position.position c.place_at-place.result c.loop-position-test.true c.place_at-place.ensures.there)
    (g.L.Ledger.state c.take_pair.new.ledger) (placeholder_of c.take_pair.new.placeholder) c.in_default.ensures
