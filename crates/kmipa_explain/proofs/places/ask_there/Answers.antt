use Rattle.std.proofs.Common.{rules, ◌≡◌, ◌∙◌, ◌-◌, ◌<◌, length, slice_get, sym, ap, subst, arith}
use Rattle.std.specs.Vec.{vec_len}
use Rattle.std.proofs.lemmas.List.{length-map}
use Rattle.kmipa_msgs.specs.Messages.{RequestOf, ask_of}
use Rattle.kmipa_check.specs.Steps.{given_of, posed_of}
use Rattle.kmipa_check.proofs.PlaceLemmas.{mapped_at}
use Rattle.kmipa_explain.proofs.PairLemmas.{asked_within, at_before, pair_some}
use Rattle.kmipa_explain.proofs.places.ask_there.Goals as goal

pub index-requires : goal.index-requires
index-requires c =
    let items = c.request.result.now.items in
    let within = asked_within (posed_of c.args.step.now.request).items (given_of c.args.step.now.response).items c.args.item c.requires.0 c.requires.1 c.requires.2 in
    let P : RequestOf → Type 0 = λ r. c.args.item - 1 < length r.items in
    let here = subst P (sym c.request.ensures) within in
    let long : length items.items ≡ vec_len items = search rules in
    omega (arith, here, length-map items.items ask_of, long)

pub returns : goal.returns
returns c =
    let asks = (posed_of c.args.step.now.request).items in
    let answers = (given_of c.args.step.now.response).items in
    let items = c.request.result.now.items.items in
    let within = asked_within asks answers c.args.item c.requires.0 c.requires.1 c.requires.2 in
    let P : RequestOf → Type 0 = λ r. c.args.item - 1 < length r.items in
    let here = subst P (sym c.request.ensures) within in
    let there = mapped_at ask_of items (c.args.item - 1) c.index.result.now (omega (arith, here, length-map items ask_of)) c.index.ensures in
    at_before asks c.args.item (pair_some asks answers c.args.item c.requires.0 c.requires.1 c.requires.2)
    ∙ ap (λ (r : RequestOf). slice_get r.items (c.args.item - 1)) (sym c.request.ensures) ∙ there
