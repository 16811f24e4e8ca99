use Rattle.std.proofs.Common.{rules, ◌∙◌, FitsSigned, w64, Ok, slice_get, sym, ap}
use Rattle.std.proofs.lemmas.Int.{to_z-of_z}
use Rattle.kmipa_msgs.specs.Messages.{RequestOf, ResponseOf, answer_of, ask_of, rules_of}
use Rattle.kmipa_ops.specs.Placeholders.{placeholder_of}
use Rattle.kmipa_batch.specs.Calls.{pairs_of}
use Rattle.kmipa_batch.proofs.PlaceLemmas.{got_none, got_some, pair_both, pair_no_left, pair_no_right, readable_at}
use Rattle.kmipa_batch.proofs.RunLemmas.{pair_absent, pair_taken}
use Rattle.kmipa_check.specs.Steps.{step_of}
use Rattle.kmipa_explain.proofs.standing.take_item.Goals as goal

pub returns-in_default-clause-taken : goal.returns-in_default-clause-taken
returns-in_default-clause-taken g c =
    let s = step_of c.args.step.now in
    let none = got_none ask_of c.deref.result.now c.request.result.now.items.items c.args.place c.deref.ensures.value c.in_default.ensures.lookup.3 in
    pair_absent (rules_of c.args.rules.now) (g.L.Ledger.state c.args.ledger.now) (placeholder_of c.args.placeholder.now) s.response.stamp (slice_get (pairs_of s.request s.response) c.args.place)
    (pair_no_left s.request.items s.response.items c.args.place (ap (λ (r : RequestOf). slice_get r.items c.args.place) (sym c.request.ensures) ∙ none)) c.requires.sound

pub returns-in_default-get-clause-taken : goal.returns-in_default-get-clause-taken
returns-in_default-get-clause-taken g c =
    let s = step_of c.args.step.now in
    let none = got_none answer_of c.deref-2.result.now c.response.result.now.items.items c.args.place c.deref-2.ensures.value c.in_default-get.ensures.lookup.3 in
    pair_absent (rules_of c.args.rules.now) (g.L.Ledger.state c.args.ledger.now) (placeholder_of c.args.placeholder.now) s.response.stamp (slice_get (pairs_of s.request s.response) c.args.place)
    (pair_no_right s.request.items s.response.items c.args.place (ap (λ (r : ResponseOf). slice_get r.items c.args.place) (sym c.response.ensures) ∙ none)) c.requires.sound

pub take-requires-clause-readable : goal.take-requires-clause-readable
take-requires-clause-readable g c =
    let s = step_of c.args.step.now in
    let taken = got_some ask_of c.deref.result.now c.request.result.now.items.items c.args.place c.in-Some.ask.now c.deref.ensures.value c.in-Some.ensures.lookup.3.0 c.in-Some.ensures.lookup.1 in
    let asked = ap (λ (r : RequestOf). slice_get r.items c.args.place) (sym c.request.ensures) ∙ taken in
    let given = got_some answer_of c.deref-2.result.now c.response.result.now.items.items c.args.place c.in-Some-get.answer.now c.deref-2.ensures.value c.in-Some-get.ensures.lookup.3.0 c.in-Some-get.ensures.lookup.1 in
    let answered = ap (λ (r : ResponseOf). slice_get r.items c.args.place) (sym c.response.ensures) ∙ given in
    readable_at (pairs_of s.request s.response) c.args.place (ask_of c.in-Some.ask.now) (answer_of c.in-Some-get.answer.now) c.requires.readable
    (pair_both s.request.items s.response.items c.args.place (ask_of c.in-Some.ask.now) (answer_of c.in-Some-get.answer.now) asked answered)

pub returns-in-Ok-clause-taken : goal.returns-in-Ok-clause-taken
returns-in-Ok-clause-taken g c =
    let s = step_of c.args.step.now in
    let taken = got_some ask_of c.deref.result.now c.request.result.now.items.items c.args.place c.in-Some.ask.now c.deref.ensures.value c.in-Some.ensures.lookup.3.0 c.in-Some.ensures.lookup.1 in
    let asked = ap (λ (r : RequestOf). slice_get r.items c.args.place) (sym c.request.ensures) ∙ taken in
    let given = got_some answer_of c.deref-2.result.now c.response.result.now.items.items c.args.place c.in-Some-get.answer.now c.deref-2.ensures.value c.in-Some-get.ensures.lookup.3.0 c.in-Some-get.ensures.lookup.1 in
    let answered = ap (λ (r : ResponseOf). slice_get r.items c.args.place) (sym c.response.ensures) ∙ given in
    let there = pair_both s.request.items s.response.items c.args.place (ask_of c.in-Some.ask.now) (answer_of c.in-Some-get.answer.now) asked answered in
    let fits : FitsSigned w64 c.moment.result = search rules in
    pair_taken (rules_of c.args.rules.now) (g.L.Ledger.state c.args.ledger.now) (placeholder_of c.args.placeholder.now) _ s.response.stamp (ask_of c.in-Some.ask.now) (answer_of c.in-Some-get.answer.now)
    (slice_get (pairs_of s.request s.response) c.args.place) (to_z-of_z w64 c.moment.result fits ∙ c.moment.ensures) there
    (Ok tt) (g.L.Ledger.state c.take.new.ledger) (placeholder_of c.take.new.placeholder) c.in-Ok.ensures
