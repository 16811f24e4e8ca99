use Rattle.std.proofs.Common.{◌≡◌, Some, None, option_map, ap}
use Rattle.std.proofs.lemmas.Result.{IfOk-weaker}
use Rattle.kmipa_msgs.specs.Messages.{response_of}
use Rattle.kmipa_record.specs.Entries.{items_of}
use Rattle.kmipa_record.specs.Witnesses.{turn_of}
use Rattle.kmipa_check.specs.Calls.{call_of}
use Rattle.kmipa_check.specs.Grants.{grants_of}
use Rattle.kmipa_check.specs.Steps.{IsAnswered, recorded}
use Rattle.kmipa_check.proofs.FillingLemmas.{some_not}
use Rattle.kmipa_unfit.proofs.AnswerLemmas.{answered_fault, ended_kind, has_end, none_of}
use Rattle.kmipa_unfit.proofs.LiftLemmas.{of_response}
use Rattle.kmipa_unfit.proofs.turns.given_unfit.Goals as goal

pub returns-then-is_some-clause-tells : goal.returns-then-is_some-clause-tells
returns-then-is_some-clause-tells c =
    let call = call_of c.args.call.now in
    let turn = turn_of c.args.turn.now in
    let response = response_of c.in-Some.response in
    let has : call.response ≡ Some response = ap (option_map response_of) c.in-Some.is in
    let some = some_not items_of c.args.turn.now.answer c.is_some.result c.is_some.ensures c.if-is_some.true in
    let e = has_end c.requires.recorded.0 call response c.requires.recorded.1 has in
    (ended_kind (grants_of c.args.grants.now) call turn c.args.kind response has some c.requires.given, record { end = e.0; ended = e.1; given = some })

pub answered_unfit-requires : goal.answered_unfit-requires
answered_unfit-requires c =
    let call = call_of c.args.call.now in
    let turn = turn_of c.args.turn.now in
    let response = response_of c.in-Some.response in
    let has : call.response ≡ Some response = ap (option_map response_of) c.in-Some.is in
    let none : turn.answer ≡ None = none_of items_of c.args.turn.now.answer c.is_some.result c.is_some.ensures c.if-is_some.false in
    answered_fault (grants_of c.args.grants.now) call turn c.args.kind response (recorded has none) c.requires.given

pub returns-clause-tells : goal.returns-clause-tells
returns-clause-tells c =
    let call = call_of c.args.call.now in
    let turn = turn_of c.args.turn.now in
    let response = response_of c.in-Some.response in
    let has : call.response ≡ Some response = ap (option_map response_of) c.in-Some.is in
    let none : turn.answer ≡ None = none_of items_of c.args.turn.now.answer c.is_some.result c.is_some.ensures c.if-is_some.false in
    let answered : IsAnswered call turn response = recorded has none in
    IfOk-weaker c.answered_unfit.result _ _ (λ unfit told. of_response (grants_of c.args.grants.now) call turn c.args.kind response answered unfit told) c.answered_unfit.ensures.tells
