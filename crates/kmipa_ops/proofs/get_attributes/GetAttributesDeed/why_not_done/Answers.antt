use Rattle.std.proofs.Common.{◌∙◌, List, Option, Some, option_map, ap, map, sym}
use Rattle.std.specs.Option.{option_and_then}
use Rattle.std.proofs.lemmas.Result.{IfOk-weaker}
use Rattle.kmipa_attrs.specs.Sets.{name_of}
use Rattle.kmipa_attrs.specs.declared.attr_set.AttrSet.{AttrSet}
use Rattle.kmipa_attrs.specs.declared.name.Name.{Name}
use Rattle.kmipa_store.specs.Ledger.{held}
use Rattle.kmipa_msgs.specs.Messages.{get_attributes_of, got_attributes_of, maybe_lent, payload_of, rules_of}
use Rattle.kmipa_ops.specs.GetAttributes.{has_stranger, seen_attributes}
use Rattle.kmipa_ops.specs.Objects.{meant}
use Rattle.kmipa_ops.specs.Placeholders.{placeholder_of}
use Rattle.kmipa_ops.specs.declared.why.Why.{Why}
use Rattle.kmipa_ops.proofs.GetAttributesLemmas.{why_there}
use Rattle.kmipa_ops.proofs.get_attributes.GetAttributesDeed.why_not_done.Goals as goal

pub why_not_attributes-requires : goal.why_not_attributes-requires
why_not_attributes-requires g c =
    let h = held c.at.result.now in
    c.lacks_at-is_strange.ensures h c.at.ensures ∙ ap (λ (xs : List Name). has_stranger h.card.given.names (map name_of xs)) (c.as_slice.ensures ∙ ap (λ (s : AttrSet). s.names.items) c.deref.ensures)

pub returns : goal.returns
returns g c =
    let asked = get_attributes_of c.args.self.now in
    IfOk-weaker c.why_not_attributes.result _ _
    (λ (why : Option Why) w.
    why_there (rules_of c.args.before.rules.now) (g.L.Ledger.state c.args.ledger.now).now.objects (meant asked.id (placeholder_of c.args.before.placeholder.now)) (g.L.Ledger.moment c.args.ledger.now) asked
    c.in-Some.place c.args.before.place (option_and_then seen_attributes (option_map payload_of c.args.payload.now)) c.state-state.result c.in-Some.is c.requires.place c.state-state.ensures
    (held c.at.result.now) (maybe_lent c.meant-about.result) (Some (got_attributes_of c.in-Some-shown.got.now)) why c.at.ensures
    (sym c.is_excluded.ensures ∙ c.if-is_excluded.false) c.meant-about.ensures c.in-Some-shown.ensures w) c.why_not_attributes.ensures
