use Rattle.std.proofs.Common.{◌≡◌, length, vec_len, rules, arith}
use Rattle.std.proofs.lemmas.List.{length-map}
use Rattle.kmipa_msgs.specs.Messages.{ask_of, answer_of, request_of, response_of}
use Rattle.kmipa_check.proofs.PlaceLemmas.{mapped_at}
use Rattle.kmipa_check.proofs.BirthLemmas.{birth_within, birth_decided}
use Rattle.kmipa_check.proofs.births.is_birth_at.Goals as goal

pub returns-then-place-len : goal.returns-then-place-len
returns-then-place-len c = λ birth.
    let len : vec_len c.args.request.now.items ≡ length c.args.request.now.items.items = search rules in
    let w = birth_within (request_of c.args.request.now) (response_of c.args.response.now) c.args.place birth in
    omega (arith, w.0, c.if-place-len.true, c.len.ensures, len, length-map c.args.request.now.items.items ask_of)

pub returns-then-place-len-2 : goal.returns-then-place-len-2
returns-then-place-len-2 c = λ birth.
    let len : vec_len c.args.response.now.items ≡ length c.args.response.now.items.items = search rules in
    let w = birth_within (request_of c.args.request.now) (response_of c.args.response.now) c.args.place birth in
    omega (arith, w.1, c.if-place-len-2.true, c.len-2.ensures, len, length-map c.args.response.now.items.items answer_of)

pub returns : goal.returns
returns c =
    let asked : vec_len c.args.request.now.items ≡ length c.args.request.now.items.items = search rules in
    let answered : vec_len c.args.response.now.items ≡ length c.args.response.now.items.items = search rules in
    birth_decided (request_of c.args.request.now) (response_of c.args.response.now) c.args.place (ask_of c.index.result.now) (answer_of c.index-2.result.now)
    (mapped_at ask_of c.args.request.now.items.items c.args.place c.index.result.now (omega (arith, c.if-place-len.false, c.len.ensures, asked)) c.index.ensures)
    (mapped_at answer_of c.args.response.now.items.items c.args.place c.index-2.result.now (omega (arith, c.if-place-len-2.false, c.len-2.ensures, answered)) c.index-2.ensures)
    c.bears.result c.bears.ensures
