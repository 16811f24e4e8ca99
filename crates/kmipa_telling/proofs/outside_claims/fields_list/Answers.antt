use Rattle.std.proofs.Common.{None, get_or, refl, rules}
use Rattle.kmipa_json.specs.Told.{items_of, members_of}
use Rattle.kmipa_msgs.specs.declared.kind.OutsideKind.TheVariants.{NotAMessage}
use Rattle.kmipa_outside.specs.Demands.{wants}
use Rattle.kmipa_outside.specs.declared.demand.Inside.TheVariants.{Here}
use Rattle.kmipa_outside.specs.declared.demand.Step.TheVariants.{Tag}
use Rattle.kmipa_outside.specs.declared.demand.Wanted.TheVariants.{There}
use Rattle.kmipa_outside.specs.declared.told.FieldTold.{FieldTold}
use Rattle.kmipa_outside.specs.declared.told.Stands.TheVariants.{Absent}
use Rattle.kmipa_telling.specs.OutsideClaims.{field_members}
use Rattle.kmipa_telling.proofs.ListLemmas.{one_told_more}
use Rattle.kmipa_telling.proofs.outside_claims.fields_list.Goals as goal

pub fields-preserved : goal.fields-preserved
fields-preserved c =
    let d : FieldTold = record { within = None; demand = wants Here (Tag 0) There NotAMessage; stands = Absent } in
    let field = get_or c.args.fields.now c.fields.field-index d in
    one_told_more field_members c.args.fields.now c.fields.field-index d field (items_of c.fields.list) (items_of c.push_object.new.self)
    (members_of c.in_ok-field_object.field-0) (search rules) refl c.fields.invariant c.in_ok-field_object.ensures c.in_ok-push_object.ensures.ok
