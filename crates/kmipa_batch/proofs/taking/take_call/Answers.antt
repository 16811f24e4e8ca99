use Rattle.std.proofs.Common.{List, map, refl, subst}
use Rattle.kmipa_msgs.specs.declared.response.Answer.{Answer}
use Rattle.kmipa_msgs.specs.Messages.{answer_of, maybe_lent, request_of, response_of, rules_of}
use Rattle.kmipa_batch.specs.Fits.{FailedAt, undoes}
use Rattle.kmipa_batch.specs.Orders.{order_given}
use Rattle.kmipa_batch.proofs.ShapeLemmas.{clash}
use Rattle.kmipa_batch.proofs.EndLemmas.{refused_explains, taken_at_end, refused_at_end}
use Rattle.kmipa_batch.proofs.taking.take_call.Goals as goal

pub returns-then-is_refused_message : goal.returns-then-is_refused_message
returns-then-is_refused_message g c = (
  refused_explains (rules_of c.args.rules.now) (g.L.Ledger.state c.args.ledger.now).now (request_of c.args.request.now) (response_of c.args.response.now) (order_given (maybe_lent c.args.places)) c.requires.order
      (c.if-is_refused_message.ensures.0 refl),
  c.requires.sound,
  refl,
)

pub returns-in-Ok-take_items : goal.returns-in-Ok-take_items
returns-in-Ok-take_items g c =
    let P : List Answer → Type 0 = λ xs. FailedAt (map answer_of xs) c.first_failed-failed.result in
    taken_at_end (rules_of c.args.rules.now) (g.L.Ledger.state c.args.ledger.now) (g.L.Ledger.state c.mark.new.self) (g.L.Ledger.state c.take_items.new.ledger) (g.L.Ledger.state c.end.new.ledger)
    (request_of c.args.request.now) (response_of c.args.response.now) (order_given (maybe_lent c.args.places)) c.first_failed-failed.result (undoes c.args.request.now.option c.first_failed-failed.result)
    c.requires.order c.requires.sound (λ r. clash (c.if-is_refused_message.ensures.1 r)) (subst P c.deref.ensures.value c.first_failed-failed.ensures) refl
    c.in-Ok.ensures.meaning.1 c.in-Ok-take_items.ensures c.end.ensures

pub returns-in-Err : goal.returns-in-Err
returns-in-Err g c =
    refused_at_end (rules_of c.args.rules.now) (g.L.Ledger.state c.args.ledger.now) (g.L.Ledger.state c.mark.new.self) (g.L.Ledger.state c.take_items.new.ledger) (g.L.Ledger.state c.back.new.self)
    (request_of c.args.request.now) (response_of c.args.response.now) (order_given (maybe_lent c.args.places)) c.in-Err.refusal c.in-Ok.ensures.meaning.1 c.in-Err.ensures c.back.ensures.meaning
