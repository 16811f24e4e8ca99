use Rattle.std.proofs.Common.{◌≡◌, ◌∙◌, ◌++◌, ap, List, map, None, option_map, Some, ℕ}
use denote.Bor.{Bor}
use Rattle.kmipa_attrs.specs.Filters.{filter_of}
use Rattle.kmipa_attrs.specs.declared.filter.Filter.{Filter}
use Rattle.kmipa_msgs.specs.Messages.{answer_of, ask_of, asked_of, lent, located, locates, payload_of}
use Rattle.kmipa_msgs.specs.declared.response.Payload.{Payload}
use Rattle.kmipa_aside.proofs.MissedLemmas.{joined, with_these}
use Rattle.kmipa_aside.proofs.missing.with_missed.Goals as goal

pub returns : goal.returns
returns c =
    let ask = ask_of c.args.ask.now in
    let answer = answer_of c.args.answer.now in
    let own = c.in-Locate-payload.located.ids.items in
    let q = filter_of c.in-Locate.locate.filter.value in
    let asks : ask.asked ≡ locates q = ap asked_of c.in-Locate.is in
    let lists : answer.payload ≡ Some (located (map lent own)) = ap (option_map payload_of) c.in-Some.is ∙ ap (λ (p : Payload). Some (payload_of p)) c.in-Locate-payload.is in
    let ids = c.extend_from_slice-2.new.self.items in
    let listed : map lent ids ≡ map lent own ++ map lent c.args.missed.now =
    ap (map lent) (c.in_ok-extend_from_slice-2.ensures.items ∙ ap (λ (xs : List (Bor (List ℕ))). xs ++ c.args.missed.now)
    (c.in_ok-extend_from_slice.ensures.items ∙ ap (λ (xs : List (Bor (List ℕ))). xs ++ c.as_slice.result.now) c.in_ok-ids.ensures.items ∙ c.as_slice.ensures.value)) ∙ joined own c.args.missed.now in
    with_these (map lent c.args.missed.now) ask answer q (map lent own) asks lists (filter_of c.in_ok-new.field-0.value)
    (ap filter_of c.in_ok-new.ensures.ok ∙ c.in_ok-with_maximum.ensures ∙ ap (λ (f : Filter). record (filter_of f) { maximum = None }) c.deref.ensures) (map lent ids) listed
