use Rattle.std.proofs.Common.{rules, ◌∙◌, ℤ, FitsSigned, w32, w64, map, slice_get, sym, ap}
use Rattle.std.proofs.lemmas.Int.{to_z-of_z}
use Rattle.kmipa_msgs.specs.Messages.{RequestOf, ResponseOf, answer_of, ask_of}
use Rattle.kmipa_batch.specs.Calls.{pairs_of}
use Rattle.kmipa_batch.proofs.PlaceLemmas.{got_none, got_some, pair_both, pair_no_left, pair_no_right}
use Rattle.kmipa_check.specs.Steps.{step_of}
use Rattle.kmipa_explain.specs.Effects.{dates_set}
use Rattle.kmipa_explain.specs.Meant.{dates_told, text_of}
use Rattle.kmipa_explain.specs.Reading.{seen_item}
use Rattle.kmipa_explain.proofs.ItemLemmas.{fields_are, item_absent, item_added}
use Rattle.kmipa_explain.proofs.items.add_item.Goals as goal

pub returns-in_default : goal.returns-in_default
returns-in_default c = λ behind.
    let s = step_of c.args.step.now in
    let none = got_none ask_of c.deref.result.now c.request.result.now.items.items c.args.place c.deref.ensures.value c.in_default.ensures.lookup.3 in
    item_absent c.args.turn s c.args.place (text_of c.args.held) (map seen_item c.args.items.now.items) (slice_get (pairs_of s.request s.response) c.args.place) behind
    (pair_no_left s.request.items s.response.items c.args.place (ap (λ (r : RequestOf). slice_get r.items c.args.place) (sym c.request.ensures) ∙ none))

pub returns-in_default-get : goal.returns-in_default-get
returns-in_default-get c = λ behind.
    let s = step_of c.args.step.now in
    let none = got_none answer_of c.deref-2.result.now c.response.result.now.items.items c.args.place c.deref-2.ensures.value c.in_default-get.ensures.lookup.3 in
    item_absent c.args.turn s c.args.place (text_of c.args.held) (map seen_item c.args.items.now.items) (slice_get (pairs_of s.request s.response) c.args.place) behind
    (pair_no_right s.request.items s.response.items c.args.place (ap (λ (r : ResponseOf). slice_get r.items c.args.place) (sym c.response.ensures) ∙ none))

pub returns : goal.returns
returns c = λ behind.
    let s = step_of c.args.step.now in
    let ask = ask_of c.in-Some.ask.now in
    let answer = answer_of c.in-Some-get.answer.now in
    let taken = got_some ask_of c.deref.result.now c.request.result.now.items.items c.args.place c.in-Some.ask.now c.deref.ensures.value c.in-Some.ensures.lookup.3.0 c.in-Some.ensures.lookup.1 in
    let asked = ap (λ (r : RequestOf). slice_get r.items c.args.place) (sym c.request.ensures) ∙ taken in
    let given = got_some answer_of c.deref-2.result.now c.response.result.now.items.items c.args.place c.in-Some-get.answer.now c.deref-2.ensures.value c.in-Some-get.ensures.lookup.3.0 c.in-Some-get.ensures.lookup.1 in
    let answered = ap (λ (r : ResponseOf). slice_get r.items c.args.place) (sym c.response.ensures) ∙ given in
    let number : FitsSigned w32 c.args.step.now.number = search rules in
    let stamp : FitsSigned w64 c.moment.result = search rules in
    let stamp2 : FitsSigned w64 c.moment-2.result = search rules in
    item_added c.args.turn s c.args.place (text_of c.args.held) c.args.items.now.items c.push.new.self.items _ ask answer (text_of c.in_ok-after.after)
    (slice_get (pairs_of s.request s.response) c.args.place) behind
    (pair_both s.request.items s.response.items c.args.place ask answer asked answered)
    (fields_are c.args.turn s c.args.place (text_of c.args.held) ask answer _ _ c.number.result c.makes_object.result (dates_told c.dates_set.result) c.tells_bytes.result (text_of c.in_ok-about.about)
    (to_z-of_z w32 c.args.step.now.number number) (to_z-of_z w64 c.moment.result stamp ∙ c.moment.ensures) c.number.ensures c.makes_object.ensures
    (c.dates_set.ensures ∙ ap (λ (t : ℤ). dates_set t ask.asked) (to_z-of_z w64 c.moment-2.result stamp2 ∙ c.moment-2.ensures)) c.tells_bytes.ensures c.in_ok-about.ensures)
    c.in_ok-after.ensures c.in_ok-push.ensures.items
