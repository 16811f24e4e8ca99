use Rattle.std.proofs.Common.{◌≡◌, length, vec_len, rules, arith}
use Rattle.kmipa_msgs.specs.Messages.{answer_of, ask_of}
use Rattle.kmipa_check.proofs.PlaceLemmas.{mapped_at}
use Rattle.kmipa_orders.specs.Hopeless.{answered}
use Rattle.kmipa_orders.proofs.hopeless.is_off.Goals as goal

pub returns-then-branch : goal.returns-then-branch
returns-then-branch c = λ e.
    let asked : vec_len c.args.request.now.items ≡ length c.args.request.now.items.items = search rules in
    let said : vec_len c.args.response.now.items ≡ length c.args.response.now.items.items = search rules in (
      c.places.place,
      answered (ask_of c.index.result.now) (answer_of c.index-in-places.result.now)
          (mapped_at ask_of c.args.request.now.items.items c.places.place c.index.result.now (omega (arith, c.places-test.true, c.if-place-len.true, c.len.ensures, c.len-in-places.ensures, asked, said)) c.index.ensures)
          (mapped_at answer_of c.args.response.now.items.items c.places.place c.index-in-places.result.now (omega (arith, c.places-test.true, c.if-place-len.true, c.len.ensures, c.len-in-places.ensures, asked, said)) c.index-in-places.ensures)
          (c.in_ok-is_answer_off.ensures c.if-branch.true),
    )
