use Rattle.std.proofs.Common.{rules, ◌≡◌, ◌∙◌, FitsSigned, w64, option_map, ap, subst, sym}
use Rattle.std.proofs.lemmas.Int.{to_z-of_z}
use Rattle.kmipa_attrs.specs.Sets.{Attributes, attributes_of}
use Rattle.kmipa_msgs.specs.Messages.{ask_of, get_attributes_of, got_attributes_of, payload_of}
use Rattle.kmipa_record.specs.Declarations.{declaration_of}
use Rattle.kmipa_record.specs.Entries.{entry_of}
use Rattle.kmipa_explain.specs.Holding.{object_held}
use Rattle.kmipa_explain.specs.Meant.{text_of}
use Rattle.kmipa_explain.specs.Values.{AreAllMissing, attributes_at}
use Rattle.kmipa_explain.proofs.ValueLemmas.{missing_told}
use Rattle.kmipa_explain.proofs.missing.missing_cause.Goals as goal

pub returns : goal.returns
returns c =
    let e = entry_of c.in-Some.entry.now in
    let fits : FitsSigned w64 c.args.t = search rules in
    let is = c.in_ok-own.ensures ∙ ap (attributes_at e) (to_z-of_z w64 c.args.t fits) in
    let g = get_attributes_of c.in-Some-attributes_asked.asked.now in
    let shown = got_attributes_of c.in-Some-attributes_got.got.now in
    let own = attributes_of c.in_ok-own.own in
    let a = c.in_ok-all_missing.field-0 in
    let d = c.deref.ensures in
    let same : attributes_of c.deref.result.now ≡ shown.attributes = cc in
    let P : Attributes → Type 0 = λ x. AreAllMissing g x own a in
    missing_told c.attributes_are_decided.ensures (object_held (declaration_of c.args.held.now) (text_of c.args.meant.now)) c.args.t (option_map payload_of c.args.answer.now.payload)
    e (sym c.in-Some.ensures) own is (ask_of c.args.ask.now).asked g shown a c.requires
    (sym c.in-Some-attributes_asked.ensures) (sym c.in-Some-attributes_got.ensures) (subst P same c.in_ok-all_missing.ensures)
