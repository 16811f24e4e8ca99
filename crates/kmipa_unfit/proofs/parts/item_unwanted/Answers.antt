use Rattle.std.proofs.Common.{rules, ◌≡◌, ◌<◌, ◌+◌, pos, length, vec_len, sym, ◌∙◌, arith}
use mir.Val.{SFits}
use mir.Syntax.{w32}
use Rattle.std.proofs.lemmas.Int.{to_z-of_z}
use Rattle.std.proofs.lemmas.List.{length-map}
use Rattle.kmipa_msgs.specs.Messages.{ask_of, answer_of, request_of, response_of}
use Rattle.kmipa_check.proofs.PlaceLemmas.{mapped_at}
use Rattle.kmipa_unfit.proofs.PartLemmas.{item_reported, past_answered}
use Rattle.kmipa_unfit.proofs.parts.item_unwanted.Goals as goal

pub returns-then-place-answered : goal.returns-then-place-answered
returns-then-place-answered c =
    let fits : SFits w32 c.args.item = search rules in
    let is : c.args.item ≡ pos (c.item_place-place.result + 1) = sym (to_z-of_z w32 c.args.item fits) ∙ c.item_place-place.ensures in (
      c.answered_count-answered.ensures,
      past_answered (request_of c.args.request.now) (response_of c.args.response.now) c.answered_count-answered.result c.args.item c.item_place-place.result c.answered_count-answered.ensures is
          (omega (arith, c.if-place-answered.true)),
    )

pub index-requires : goal.index-requires
index-requires c =
    let asked : vec_len c.args.request.now.items ≡ length c.args.request.now.items.items = search rules in
    let below : c.item_place-place.result < c.answered_count-answered.result = omega (arith, c.if-place-answered.false) in
    let w = (c.answered_count-answered.ensures c.item_place-place.result).0 below in
    omega (arith, w.0, asked, length-map c.args.request.now.items.items ask_of)

pub index-requires-2 : goal.index-requires-2
index-requires-2 c =
    let answered : vec_len c.args.response.now.items ≡ length c.args.response.now.items.items = search rules in
    let below : c.item_place-place.result < c.answered_count-answered.result = omega (arith, c.if-place-answered.false) in
    let w = (c.answered_count-answered.ensures c.item_place-place.result).0 below in
    omega (arith, w.1, answered, length-map c.args.response.now.items.items answer_of)

pub returns : goal.returns
returns c =
    let fits : SFits w32 c.args.item = search rules in
    let is : c.args.item ≡ pos (c.item_place-place.result + 1) = sym (to_z-of_z w32 c.args.item fits) ∙ c.item_place-place.ensures in
    let below : c.item_place-place.result < c.answered_count-answered.result = omega (arith, c.if-place-answered.false) in
    let w = (c.answered_count-answered.ensures c.item_place-place.result).0 below in
    item_reported c.args.part (request_of c.args.request.now) (response_of c.args.response.now) c.args.item c.item_place-place.result (ask_of c.index.result.now) (answer_of c.index-2.result.now) c.answer_unwanted.result is
    (mapped_at ask_of c.args.request.now.items.items c.item_place-place.result c.index.result.now (omega (arith, w.0, length-map c.args.request.now.items.items ask_of)) c.index.ensures)
    (mapped_at answer_of c.args.response.now.items.items c.item_place-place.result c.index-2.result.now (omega (arith, w.1, length-map c.args.response.now.items.items answer_of)) c.index-2.ensures)
    c.answer_unwanted.ensures
