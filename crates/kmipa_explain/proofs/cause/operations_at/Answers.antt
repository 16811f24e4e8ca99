use Rattle.std.proofs.Common.{rules, ◌≡◌, ◌∙◌, ◌-◌, ◌<◌, length, Some, slice_get, sym, ap, subst, arith}
use Rattle.std.specs.Vec.{vec_len}
use Rattle.std.proofs.lemmas.List.{length-map}
use Rattle.kmipa_msgs.specs.Messages.{AnswerOf, RequestOf, ResponseOf, ask_of, answer_of}
use Rattle.kmipa_check.specs.Steps.{given_of, posed_of}
use Rattle.kmipa_check.proofs.PlaceLemmas.{mapped_at}
use Rattle.kmipa_explain.specs.Items.{number_asked}
use Rattle.kmipa_explain.proofs.PairLemmas.{answered_at, answered_within, asked_at, asked_within}
use Rattle.kmipa_explain.proofs.cause.operations_at.Goals as goal

pub index-requires : goal.index-requires
index-requires c =
    let items = c.request.result.now.items in
    let inside = asked_within (posed_of c.args.step.now.request).items (given_of c.args.step.now.response).items c.args.item c.requires.0 c.requires.1 c.requires.2 in
    let P : RequestOf → Type 0 = λ r. c.args.item - 1 < length r.items in
    let within = subst P (sym c.request.ensures) inside in
    let long : length items.items ≡ vec_len items = search rules in
    omega (arith, within, length-map items.items ask_of, long)

pub index-requires-2 : goal.index-requires-2
index-requires-2 c =
    let items = c.response.result.now.items in
    let within = answered_within (posed_of c.args.step.now.request).items (given_of c.args.step.now.response).items c.args.item c.requires.0 c.requires.1 c.requires.2 in
    let P : ResponseOf → Type 0 = λ r. c.args.item - 1 < length r.items in
    let here = subst P (sym c.response.ensures) within in
    let long : length items.items ≡ vec_len items = search rules in
    omega (arith, here, length-map items.items answer_of, long)

pub returns : goal.returns
returns c =
    let asks = (posed_of c.args.step.now.request).items in
    let answers = (given_of c.args.step.now.response).items in
    let pair = c.requires.2 in
    let P : ResponseOf → Type 0 = λ r. c.args.item - 1 < length r.items in
    let here = subst P (sym c.response.ensures) (answered_within asks answers c.args.item c.requires.0 c.requires.1 pair) in
    let Q : ResponseOf → Type 0 = λ r. slice_get r.items (c.args.item - 1) ≡ Some c.requires.1 in
    let answered = subst Q (sym c.response.ensures) (answered_at asks answers c.args.item c.requires.0 c.requires.1 pair) in
    let R : RequestOf → Type 0 = λ r. slice_get r.items (c.args.item - 1) ≡ Some c.requires.0 in
    let asked = subst R (sym c.request.ensures) (asked_at asks answers c.args.item c.requires.0 c.requires.1 pair) in
    let W : RequestOf → Type 0 = λ r. c.args.item - 1 < length r.items in
    let within = subst W (sym c.request.ensures) (asked_within asks answers c.args.item c.requires.0 c.requires.1 pair) in
    let items = c.request.result.now.items.items in
    let given = c.response.result.now.items.items in
    let ask = mapped_at ask_of items (c.args.item - 1) c.index.result.now (omega (arith, within, length-map items ask_of)) c.index.ensures in
    let answer = mapped_at answer_of given (c.args.item - 1) c.index-2.result.now (omega (arith, here, length-map given answer_of)) c.index-2.ensures in
    let its_ask : ask_of c.index.result.now ≡ c.requires.0 = cc in
    let its_answer : answer_of c.index-2.result.now ≡ c.requires.1 = cc in
    record {
      ask = c.requires.0;
      answer = c.requires.1;
      there = pair;
      asked = c.number-asked.ensures ∙ ap number_asked its_ask;
      answered = ap (λ (a : AnswerOf). a.operation) its_answer;
    }
