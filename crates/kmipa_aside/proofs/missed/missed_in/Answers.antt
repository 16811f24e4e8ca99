use Rattle.std.proofs.Common.{◌≡◌, ◌∙◌, ap, false, length, List, map, option_map, sym, Some, ℕ}
use denote.Bor.{Bor}
use Rattle.std.specs.Int.{w64}
use Rattle.std.proofs.lemmas.Int.{to_z-of_z}
use Rattle.kmipa_attrs.specs.declared.filter.Filter.{Filter}
use Rattle.kmipa_msgs.specs.Messages.{asked_of, lent, located, payload_of}
use Rattle.kmipa_msgs.specs.declared.response.Payload.{Payload}
use Rattle.kmipa_ops.specs.Locate.{is_full}
use Rattle.kmipa_aside.specs.Becoming.{stand_in}
use Rattle.kmipa_aside.specs.Sights.{sight_of}
use Rattle.kmipa_aside.proofs.MissedLemmas.{in_list}
use Rattle.kmipa_aside.proofs.ScanLemmas.{length-map}
use Rattle.kmipa_aside.proofs.missed.missed_in.Goals as goal

pub returns : goal.returns
returns g c =
    let s = stand_in (g.L.Ledger.state c.args.ledger.now).now in
    let listed = c.as_slice-listed.result.now in
    let value : Filter = c.in-Locate.locate.filter.value in
    let lists : option_map payload_of c.args.payload.now ≡ Some (located (map lent listed)) =
    ap (option_map payload_of) c.in-Some.is ∙ ap (λ (p : Payload). Some (payload_of p)) c.in-Locate-payload.is
    ∙ ap (λ (xs : List (Bor (List ℕ))). Some (located (map lent xs))) (sym c.as_slice-listed.ensures.value) in
    let full : is_full value.maximum (length (map lent listed)) ≡ false =
    ap (is_full value.maximum) (length-map lent listed) ∙ ap (λ (f : Filter). is_full f.maximum (length listed)) (sym c.deref.ensures) ∙ sym c.is_full.ensures ∙ c.if-is_full.false in
    in_list (sight_of c.args.sight).hidden s _ c.args.t (to_z-of_z w64 c.args.t c.ranges.t) (asked_of c.args.asked.now) (option_map payload_of c.args.payload.now) c.deref-2.result.now value c.deref-2.ensures
    (map lent listed) (map lent c.in_ok-ids.ids.items) (ap asked_of c.in-Locate.is) lists full c.in_ok-ids.ensures
