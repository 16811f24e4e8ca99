use Rattle.std.proofs.Common.{◌≡◌, ◌∙◌, ◌≤◌, ◌-◌, ap, arith, false, length, List, map, option_map, sym, Some, ℕ, ℤ, Option}
use denote.Bor.{Bor}
use Rattle.kmipa_attrs.specs.Filters.{filter_of}
use Rattle.kmipa_attrs.specs.declared.filter.Filter.{Filter}
use Rattle.kmipa_msgs.specs.Messages.{answer_of, ask_of, asked_of, lent, located, locates, payload_of}
use Rattle.kmipa_msgs.specs.declared.response.Payload.{Payload}
use Rattle.kmipa_ops.specs.Locate.{has_repeat}
use Rattle.kmipa_aside.specs.Becoming.{stand_in}
use Rattle.kmipa_aside.specs.Lists.{count_aside, judged_of, lowered}
use Rattle.kmipa_aside.proofs.ListingLemmas.{fewer, left_out, made_beside}
use Rattle.kmipa_aside.proofs.ScanLemmas.{length-map}
use Rattle.kmipa_aside.proofs.lists.beside.Goals as goal

pub lowered-maximum-requires-clause-within : goal.lowered-maximum-requires-clause-within
lowered-maximum-requires-clause-within g c =
    let listed = c.as_slice-listed.result.now in
    let few : length c.in_ok-judged.judged.items ≤ length listed =
    fewer (stand_in (g.L.Ledger.state c.args.ledger.now).now) listed c.in_ok-judged.judged.items c.in_ok-judged.ensures in
    omega (arith, c.len.ensures, c.in_ok-judged.judged.ok, few)

pub returns : goal.returns
returns g c =
    let s = stand_in (g.L.Ledger.state c.args.ledger.now).now in
    let ask = ask_of c.args.ask.now in
    let answer = answer_of c.args.answer.now in
    let listed = c.as_slice-listed.result.now in
    let ids = map lent listed in
    let q = filter_of c.in-Locate.locate.filter.value in
    let judged = c.in_ok-judged.judged.items in
    let asks : ask.asked ≡ locates q = ap asked_of c.in-Locate.is in
    let lists : answer.payload ≡ Some (located ids) =
    ap (option_map payload_of) c.in-Some.is ∙ ap (λ (p : Payload). Some (payload_of p)) c.in-Locate-payload.is
    ∙ ap (λ (xs : List (Bor (List ℕ))). Some (located (map lent xs))) (sym c.as_slice-listed.ensures.value) in
    let once : has_repeat ids ≡ false = sym c.in_ok-has_repeat.ensures ∙ c.if-branch.false in
    let many : length judged ≡ length (judged_of s ids) = sym (length-map lent judged) ∙ ap (λ (xs : List (List ℕ)). length xs) c.in_ok-judged.ensures in
    let out : length listed - c.len.result ≡ count_aside s ids =
    left_out s ids c.len.result (length listed) (omega (arith, c.len.ensures, c.in_ok-judged.judged.ok, many)) (sym (length-map lent listed)) in
    let most : c.lowered-maximum.result ≡ lowered q.maximum (count_aside s ids) =
    c.lowered-maximum.ensures ∙ ap (λ (f : Filter). lowered f.maximum (length listed - c.len.result)) c.deref-2.ensures ∙ ap (lowered q.maximum) out in
    made_beside s ask answer q ids asks lists once (filter_of c.in_ok-new.field-0.value)
    (ap filter_of c.in_ok-new.ensures.ok ∙ c.in_ok-with_maximum.ensures ∙ ap (λ (f : Filter). record (filter_of f) { maximum = c.lowered-maximum.result }) c.deref-3.ensures
    ∙ ap (λ (m : Option ℤ). record q { maximum = m }) most) (map lent judged) c.in_ok-judged.ensures
