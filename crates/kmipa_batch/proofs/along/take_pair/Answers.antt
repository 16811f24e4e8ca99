use Rattle.std.proofs.Common.{rules, ◌≡◌, ◌∙◌, map, slice_get, Some, FitsSigned, w64}
use Rattle.std.proofs.lemmas.Int.{to_z-of_z}
use Rattle.kmipa_msgs.specs.Messages.{ask_of, answer_of, request_of, response_of, rules_of}
use Rattle.kmipa_ops.specs.Placeholders.{placeholder_of}
use Rattle.kmipa_batch.specs.Calls.{pairs_of}
use Rattle.kmipa_batch.proofs.PlaceLemmas.{got_some, got_none, pair_both, pair_no_left, pair_no_right, readable_at}
use Rattle.kmipa_batch.proofs.RunLemmas.{pair_absent, pair_taken}
use Rattle.kmipa_batch.proofs.along.take_pair.Goals as goal

pub returns-in_default : goal.returns-in_default
returns-in_default g c =
    let asks = map ask_of c.args.call.request.now.items.items in
    let answers = map answer_of c.args.call.response.now.items.items in
    pair_absent (rules_of c.args.call.rules.now) (g.L.Ledger.state c.args.ledger.now) (placeholder_of c.args.placeholder.now) c.args.call.response.now.stamp
    (slice_get (pairs_of (request_of c.args.call.request.now) (response_of c.args.call.response.now)) c.args.place)
    (pair_no_left asks answers c.args.place (got_none ask_of c.deref.result.now c.args.call.request.now.items.items c.args.place c.deref.ensures.value c.in_default.ensures.lookup.3))
    c.requires.sound

pub returns-in_default-get : goal.returns-in_default-get
returns-in_default-get g c =
    let asks = map ask_of c.args.call.request.now.items.items in
    let answers = map answer_of c.args.call.response.now.items.items in
    pair_absent (rules_of c.args.call.rules.now) (g.L.Ledger.state c.args.ledger.now) (placeholder_of c.args.placeholder.now) c.args.call.response.now.stamp
    (slice_get (pairs_of (request_of c.args.call.request.now) (response_of c.args.call.response.now)) c.args.place)
    (pair_no_right asks answers c.args.place (got_none answer_of c.deref-2.result.now c.args.call.response.now.items.items c.args.place c.deref-2.ensures.value c.in_default-get.ensures.lookup.3))
    c.requires.sound

pub take-requires-clause-readable : goal.take-requires-clause-readable
take-requires-clause-readable g c =
    let asks = map ask_of c.args.call.request.now.items.items in
    let answers = map answer_of c.args.call.response.now.items.items in
    readable_at (pairs_of (request_of c.args.call.request.now) (response_of c.args.call.response.now)) c.args.place (ask_of c.in-Some.ask.now) (answer_of c.in-Some-get.answer.now) c.requires.readable
    (pair_both asks answers c.args.place (ask_of c.in-Some.ask.now) (answer_of c.in-Some-get.answer.now)
    (got_some ask_of c.deref.result.now c.args.call.request.now.items.items c.args.place c.in-Some.ask.now c.deref.ensures.value c.in-Some.ensures.lookup.3.0 c.in-Some.ensures.lookup.1)
    (got_some answer_of c.deref-2.result.now c.args.call.response.now.items.items c.args.place c.in-Some-get.answer.now c.deref-2.ensures.value c.in-Some-get.ensures.lookup.3.0 c.in-Some-get.ensures.lookup.1))

pub returns : goal.returns
returns g c =
    let asks = map ask_of c.args.call.request.now.items.items in
    let answers = map answer_of c.args.call.response.now.items.items in
    let ask = ask_of c.in-Some.ask.now in
    let answer = answer_of c.in-Some-get.answer.now in
    let there : slice_get (pairs_of (request_of c.args.call.request.now) (response_of c.args.call.response.now)) c.args.place ≡ Some (ask, answer) =
    pair_both asks answers c.args.place ask answer
    (got_some ask_of c.deref.result.now c.args.call.request.now.items.items c.args.place c.in-Some.ask.now c.deref.ensures.value c.in-Some.ensures.lookup.3.0 c.in-Some.ensures.lookup.1)
    (got_some answer_of c.deref-2.result.now c.args.call.response.now.items.items c.args.place c.in-Some-get.answer.now c.deref-2.ensures.value c.in-Some-get.ensures.lookup.3.0 c.in-Some-get.ensures.lookup.1)
    in
    let fits : FitsSigned w64 c.response_stamp-t.result = search rules in
    pair_taken (rules_of c.args.call.rules.now) (g.L.Ledger.state c.args.ledger.now) (placeholder_of c.args.placeholder.now) _ c.args.call.response.now.stamp ask answer
    (slice_get (pairs_of (request_of c.args.call.request.now) (response_of c.args.call.response.now)) c.args.place)
    (to_z-of_z w64 c.response_stamp-t.result fits ∙ c.response_stamp-t.ensures) there
    c.take.result (g.L.Ledger.state c.take.new.ledger) (placeholder_of c.take.new.placeholder) c.take.ensures
