use Rattle.std.proofs.Common.{List, refl, subst}
use Rattle.kmipa_msgs.specs.Messages.{maybe_lent, rules_of}
use Rattle.kmipa_passed.specs.declared.passed.Outcome.{Outcome}
use Rattle.kmipa_batch.specs.Fits.{FailedAt, undoes}
use Rattle.kmipa_batch.specs.Orders.{order_given}
use Rattle.kmipa_bundle.specs.Bundles.{call_seen}
use Rattle.kmipa_bundle.specs.Shapes.{answers_as}
use Rattle.kmipa_bundle.proofs.EndLemmas.{counted_at_end, refused_counted, refused_took, taken_at_end, refused_at_end}
use Rattle.kmipa_bundle.proofs.ReadableLemmas.{all_are_readable}
use Rattle.kmipa_bundle.proofs.taking.take_call.Goals as goal

pub returns-then-call-clause-taken : goal.returns-then-call-clause-taken
returns-then-call-clause-taken g c =
    refused_took (rules_of c.args.sight.rules.now) (call_seen c.args.sight c.args.call.now) (order_given (maybe_lent c.args.places)) c.count_first.result (g.L.Ledger.state c.args.ledger.now) c.if-call.true c.requires.sound

pub returns-then-call-clause-counted : goal.returns-then-call-clause-counted
returns-then-call-clause-counted g c =
    refused_counted (rules_of c.args.sight.rules.now) c.count_first.result (g.L.Ledger.state c.args.ledger.now) (call_seen c.args.sight c.args.call.now) (order_given (maybe_lent c.args.places)) c.if-call.true c.count_first.ensures

pub take_places-requires-clause-readable : goal.take_places-requires-clause-readable
take_places-requires-clause-readable g c = all_are_readable (call_seen c.args.sight c.args.call.now) c.requires.readable c.if-call.false

pub returns-in-Ok-take_places-clause-taken : goal.returns-in-Ok-take_places-clause-taken
returns-in-Ok-take_places-clause-taken g c =
    let P : List Outcome → Type 0 = λ xs. FailedAt (answers_as xs) c.first_failed-failed.result in
    taken_at_end (rules_of c.args.sight.rules.now) c.in-Ok-take_places.counts (g.L.Ledger.state c.args.ledger.now) (g.L.Ledger.state c.mark.new.self) (g.L.Ledger.state c.take_places.new.ledger)
    (g.L.Ledger.state c.end.new.ledger) (call_seen c.args.sight c.args.call.now) (order_given (maybe_lent c.args.places)) c.first_failed-failed.result (undoes c.args.call.now.option c.first_failed-failed.result)
    c.requires.sound c.if-call.false (subst P c.as_slice.ensures.value c.first_failed-failed.ensures) refl
    c.in-Ok.ensures.meaning.1 c.in-Ok-take_places.ensures c.end.ensures

pub returns-in-Ok-take_places-clause-counted : goal.returns-in-Ok-take_places-clause-counted
returns-in-Ok-take_places-clause-counted g c =
    counted_at_end (rules_of c.args.sight.rules.now) c.in-Ok-take_places.counts (g.L.Ledger.state c.args.ledger.now) (g.L.Ledger.state c.mark.new.self) (g.L.Ledger.state c.take_places.new.ledger)
    (g.L.Ledger.state c.end.new.ledger) (call_seen c.args.sight c.args.call.now) (order_given (maybe_lent c.args.places)) (undoes c.args.call.now.option c.first_failed-failed.result)
    c.if-call.false c.in-Ok.ensures.meaning.1 c.in-Ok-take_places.ensures c.end.ensures

pub returns-in-Err-clause-taken : goal.returns-in-Err-clause-taken
returns-in-Err-clause-taken g c =
    refused_at_end (rules_of c.args.sight.rules.now) (g.L.Ledger.state c.args.ledger.now) (g.L.Ledger.state c.mark.new.self) (g.L.Ledger.state c.take_places.new.ledger) (g.L.Ledger.state c.back.new.self)
    (call_seen c.args.sight c.args.call.now) (order_given (maybe_lent c.args.places)) c.in-Err.refusal c.in-Ok.ensures.meaning.1 c.in-Err.ensures c.back.ensures.meaning
