use Rattle.std.proofs.Common.{rules, ◌∙◌, FitsSigned, w64, option_map, ap, sym}
use Rattle.std.proofs.lemmas.Int.{to_z-of_z}
use Rattle.kmipa_attrs.specs.Sets.{attributes_of}
use Rattle.kmipa_msgs.specs.Messages.{payload_of}
use Rattle.kmipa_record.specs.Declarations.{declaration_of}
use Rattle.kmipa_record.specs.Entries.{entry_of}
use Rattle.kmipa_explain.specs.Holding.{object_held}
use Rattle.kmipa_explain.specs.Meant.{text_of}
use Rattle.kmipa_explain.specs.Values.{attributes_at}
use Rattle.kmipa_explain.proofs.ValueLemmas.{differing_told}
use Rattle.kmipa_explain.proofs.differing.differing_cause.Goals as goal

pub returns : goal.returns
returns c =
    let e = entry_of c.in-Some.entry.now in
    let fits : FitsSigned w64 c.args.t = search rules in
    let is = c.in_ok-own.ensures ∙ ap (attributes_at e) (to_z-of_z w64 c.args.t fits) in
    differing_told c.attributes_are_decided.ensures (object_held (declaration_of c.args.held.now) (text_of c.args.meant.now)) c.args.t (option_map payload_of c.args.answer.now.payload)
    e (sym c.in-Some.ensures) (attributes_of c.in_ok-own.own) is (payload_of c.in-Some-payload.shown) c.in_ok-all_differing.field-0 c.requires
    (ap (option_map payload_of) c.in-Some-payload.is) c.in_ok-all_differing.ensures
