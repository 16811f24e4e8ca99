use Rattle.std.proofs.Common.{◌≡◌, ◌<◌, ℤ, pos, ◌≤ℤ◌, Some, length, map, vec_len, refl, sym, subst, rules, arith}
use mir.Val.{SFits}
use mir.Syntax.{w32}
use Rattle.std.proofs.lemmas.Int.{to_z-of_z}
use Rattle.std.proofs.lemmas.List.{length-map, map-set}
use Rattle.std.proofs.lemmas.Result.{err_from_is_err_and}
use Rattle.kmipa_msgs.specs.Messages.{ask_of, answer_of, payload_of, request_of, response_of}
use Rattle.kmipa_msgs.specs.declared.response.Answer.{Answer}
use Rattle.kmipa_record.specs.Witnesses.{fill_of}
use Rattle.kmipa_check.proofs.PlaceLemmas.{mapped_at, some_at}
use Rattle.kmipa_check.proofs.FillingLemmas.{filled_up_to_more, filled_up_to_all, form_fault, fill_for, wanted_from_one, wanted_place, wanted_within}
use Rattle.kmipa_check.proofs.filling.filled.Goals as goal

pub item_place-place-requires : goal.item_place-place-requires
item_place-place-requires c =
    let fits : SFits w32 c.index-fills-at.result.item = search rules in
    let there = mapped_at fill_of c.args.fills.now c.fills.at c.index-fills-at.result c.fills-test.true c.index-fills-at.is in
    let P : ℤ → Type 0 = λ z. pos 1 ≤ℤ z in
    subst P (sym (to_z-of_z w32 c.index-fills-at.result.item fits))
    (wanted_from_one (request_of c.args.request.now) (response_of c.args.response.now) (map fill_of c.args.fills.now) c.fills.at (fill_of c.index-fills-at.result) c.requires.wanted there)

pub index-requires : goal.index-requires
index-requires c =
    let fits : SFits w32 c.index-fills-at.result.item = search rules in
    let there = mapped_at fill_of c.args.fills.now c.fills.at c.index-fills-at.result c.fills-test.true c.index-fills-at.is in
    let its = fill_for c.index-fills-at.result c.item_place-place.result fits c.item_place-place.ensures in
    let request = request_of c.args.request.now in
    let response = response_of c.args.response.now in
    let fills = map fill_of c.args.fills.now in
    let fill = fill_of c.index-fills-at.result in
    let w = wanted_within request response c.item_place-place.result (wanted_place request response fills c.fills.at fill c.item_place-place.result c.requires.wanted there its) in
    let asked : vec_len c.args.request.now.items ≡ length c.args.request.now.items.items = search rules in
    omega (arith, w.0, asked, length-map c.args.request.now.items.items ask_of)

pub returns-in_err-payload : goal.returns-in_err-payload
returns-in_err-payload c =
    let p = err_from_is_err_and c.from_residual-in_err-payload.result c.from_residual-in_err-payload.ensures.1 in
    let fits : SFits w32 c.index-fills-at.result.item = search rules in
    let there = mapped_at fill_of c.args.fills.now c.fills.at c.index-fills-at.result c.fills-test.true c.index-fills-at.is in
    let its = fill_for c.index-fills-at.result c.item_place-place.result fits c.item_place-place.ensures in
    let request = request_of c.args.request.now in
    let response = response_of c.args.response.now in
    let fills = map fill_of c.args.fills.now in
    let fill = fill_of c.index-fills-at.result in
    let w = wanted_within request response c.item_place-place.result (wanted_place request response fills c.fills.at fill c.item_place-place.result c.requires.wanted there its) in
    let asked : vec_len c.args.request.now.items ≡ length c.args.request.now.items.items = search rules in
    let ask = mapped_at ask_of c.args.request.now.items.items c.item_place-place.result c.index.result.now (omega (arith, w.0, length-map c.args.request.now.items.items ask_of)) c.index.ensures in
    let answer = some_at response.items c.item_place-place.result w.1 in
    rw (p.1, p.2)
    (form_fault request response fills c.requires.wanted c.fills.at fill there c.item_place-place.result its (ask_of c.index.result.now) ask answer.0 answer.1 c.in_err-payload.field-0.0 c.in_err-payload.ensures)

pub index_mut-requires : goal.index_mut-requires
index_mut-requires c =
    let fits : SFits w32 c.index-fills-at.result.item = search rules in
    let there = mapped_at fill_of c.args.fills.now c.fills.at c.index-fills-at.result c.fills-test.true c.index-fills-at.is in
    let its = fill_for c.index-fills-at.result c.item_place-place.result fits c.item_place-place.ensures in
    let request = request_of c.args.request.now in
    let response = response_of c.args.response.now in
    let fills = map fill_of c.args.fills.now in
    let fill = fill_of c.index-fills-at.result in
    let w = wanted_within request response c.item_place-place.result (wanted_place request response fills c.fills.at fill c.item_place-place.result c.requires.wanted there its) in
    let asked : vec_len c.args.request.now.items ≡ length c.args.request.now.items.items = search rules in
    let answered : vec_len c.fills.full.items ≡ length c.fills.full.items.items = search rules in
    let counted = c.fills.invariant.counted in
    omega (arith, w.1, answered, counted, length-map c.args.response.now.items.items answer_of, length-map c.fills.full.items.items answer_of)

pub fills-preserved : goal.fills-preserved
fills-preserved c =
    let fits : SFits w32 c.index-fills-at.result.item = search rules in
    let there = mapped_at fill_of c.args.fills.now c.fills.at c.index-fills-at.result c.fills-test.true c.index-fills-at.is in
    let its = fill_for c.index-fills-at.result c.item_place-place.result fits c.item_place-place.ensures in
    let request = request_of c.args.request.now in
    let response = response_of c.args.response.now in
    let fills = map fill_of c.args.fills.now in
    let fill = fill_of c.index-fills-at.result in
    let w = wanted_within request response c.item_place-place.result (wanted_place request response fills c.fills.at fill c.item_place-place.result c.requires.wanted there its) in
    let asked : vec_len c.args.request.now.items ≡ length c.args.request.now.items.items = search rules in
    let ask = mapped_at ask_of c.args.request.now.items.items c.item_place-place.result c.index.result.now (omega (arith, w.0, length-map c.args.request.now.items.items ask_of)) c.index.ensures in
    let counted = c.fills.invariant.counted in
    let within : c.item_place-place.result < length c.fills.full.items.items =
    omega (arith, w.1, counted, length-map c.args.response.now.items.items answer_of, length-map c.fills.full.items.items answer_of) in
    let new : Answer = record c.index_mut.result.now { payload = Some c.in_ok-payload.payload } in
    filled_up_to_more request response fills c.requires.wanted c.fills.at fill there c.item_place-place.result its (ask_of c.index.result.now) ask (response_of c.fills.full) _
    (answer_of c.index_mut.result.now) (payload_of c.in_ok-payload.payload) c.fills.invariant
    (mapped_at answer_of c.fills.full.items.items c.item_place-place.result c.index_mut.result.now within c.index_mut.ensures.value) c.in_ok-payload.ensures refl
    (map-set answer_of c.fills.full.items.items c.item_place-place.result new)

pub returns : goal.returns
returns c =
    filled_up_to_all (request_of c.args.request.now) (response_of c.args.response.now) (map fill_of c.args.fills.now) c.fills.at (response_of c.fills.full) c.requires.wanted c.requires.complete
    (omega (arith, c.fills-test.false, length-map c.args.fills.now fill_of)) c.fills.invariant
