use Rattle.std.proofs.Common.{◌≡◌, length, vec_len, rules, arith}
use Rattle.kmipa_msgs.specs.Messages.{ask_of, answer_of, request_of, response_of}
use Rattle.kmipa_check.proofs.PlaceLemmas.{mapped_at}
use Rattle.kmipa_orders.proofs.IdleLemmas.{idle_here}
use Rattle.kmipa_orders.proofs.idle.is_idle_at.Goals as goal

pub returns : goal.returns
returns c =
    let asked : vec_len c.args.request.now.items ≡ length c.args.request.now.items.items = search rules in
    let answered : vec_len c.args.response.now.items ≡ length c.args.response.now.items.items = search rules in
    idle_here (request_of c.args.request.now) (response_of c.args.response.now) c.args.place (ask_of c.index.result.now) (answer_of c.index-2.result.now) c.is_idle_item.result
    (mapped_at ask_of c.args.request.now.items.items c.args.place c.index.result.now (omega (arith, c.if-place-len.false, c.len.ensures, asked)) c.index.ensures)
    (mapped_at answer_of c.args.response.now.items.items c.args.place c.index-2.result.now (omega (arith, c.if-place-len-2.false, c.len-2.ensures, answered)) c.index-2.ensures)
    c.is_idle_item.ensures
