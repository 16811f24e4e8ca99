use Rattle.std.proofs.Common.{rules, ◌≡◌, ◌∙◌, ℕ, ◌+◌, false, List, Option, Err, sym, subst}
use Rattle.kmipa_store.specs.Ledger.{LedgerState}
use Rattle.kmipa_msgs.specs.Messages.{maybe_lent, request_of, response_of, rules_of}
use Rattle.kmipa_ops.specs.declared.why.Why.TheVariants.{BatchShape}
use Rattle.kmipa_batch.specs.declared.refusal.CallRefusal.TheVariants.{Impossible}
use Rattle.kmipa_batch.specs.Orders.{is_unordered, order_given}
use Rattle.kmipa_batch.specs.Running.{Ran}
use Rattle.kmipa_batch.proofs.OrderLemmas.{length_from, given_long}
use Rattle.kmipa_batch.proofs.RunLemmas.{ordered_by_place, ran_shaped, ran_before, ran_unshaped, ran_misshapen}
use Rattle.kmipa_batch.proofs.taking.take_items.Goals as goal

pub take_along-requires-clause-counted : goal.take_along-requires-clause-counted
take_along-requires-clause-counted g c = given_long (maybe_lent c.args.places) (request_of c.args.call.request.now) c.taken_count-count.result c.taken_count-count.ensures

pub returns-in_default : goal.returns-in_default
returns-in_default g c =
    ran_shaped (rules_of c.args.call.rules.now) (g.L.Ledger.state c.args.ledger.now) (request_of c.args.call.request.now) (response_of c.args.call.response.now) c.requires.unrefused
    (maybe_lent c.args.places) c.taken_count-count.result c.taken_count-count.ensures c.requires.order c.in_default.ensures.lowest
    c.take_along.result (g.L.Ledger.state c.take_along.new.ledger) c.take_along.ensures

pub returns-then-shapes_first : goal.returns-then-shapes_first
returns-then-shapes_first g c =
    ran_misshapen (rules_of c.args.call.rules.now) (g.L.Ledger.state c.args.ledger.now) (request_of c.args.call.request.now) (response_of c.args.call.response.now) c.requires.unrefused
    (order_given (maybe_lent c.args.places)) c.in-Some.unshaped c.in-Some.ensures.lowest (sym c.is_unordered-shapes_first.ensures ∙ c.if-shapes_first.true) c.requires.sound

pub take_along-requires-2-clause-counted : goal.take_along-requires-2-clause-counted
take_along-requires-2-clause-counted g c = length_from 0 c.in-Some.unshaped

pub returns-in_err-take_along : goal.returns-in_err-take_along
returns-in_err-take_along g c =
    let s : LedgerState = g.L.Ledger.state c.args.ledger.now in
    let u : LedgerState = g.L.Ledger.state c.take_along-2.new.ledger in
    let request = request_of c.args.call.request.now in
    let response = response_of c.args.call.response.now in
    let ordered : is_unordered request ≡ false = sym c.is_unordered-shapes_first.ensures ∙ c.if-shapes_first.false in
    let P : Option (List ℕ) → Type 0 = λ order. Ran (rules_of c.args.call.rules.now) s request response order (Err c.in_err-take_along.field-0.0) u in
    let e : c.from_residual.result ≡ Err c.in_err-take_along.field-0.0 = search rules in
    rw e (subst P (ordered_by_place request response (order_given (maybe_lent c.args.places)) c.requires.order ordered)
    (ran_before (rules_of c.args.call.rules.now) s request response c.requires.unrefused c.in-Some.unshaped c.in-Some.ensures.lowest ordered c.in_err-take_along.field-0.0 u c.in_err-take_along.ensures))

pub returns : goal.returns
returns g c =
    let s : LedgerState = g.L.Ledger.state c.args.ledger.now in
    let u : LedgerState = g.L.Ledger.state c.take_along-2.new.ledger in
    let request = request_of c.args.call.request.now in
    let response = response_of c.args.call.response.now in
    let ordered : is_unordered request ≡ false = sym c.is_unordered-shapes_first.ensures ∙ c.if-shapes_first.false in
    let P : Option (List ℕ) → Type 0 = λ order. Ran (rules_of c.args.call.rules.now) s request response order (Err (Impossible (c.in-Some.unshaped + 1) BatchShape)) u in
    subst P (ordered_by_place request response (order_given (maybe_lent c.args.places)) c.requires.order ordered)
    (ran_unshaped (rules_of c.args.call.rules.now) s request response c.requires.unrefused c.in-Some.unshaped c.in-Some.ensures.lowest ordered u c.in_ok-take_along.ensures)
