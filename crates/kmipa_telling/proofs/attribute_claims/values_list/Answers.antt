use Rattle.std.proofs.Common.{get_or, refl, rules, None}
use Rattle.kmipa_json.specs.Told.{items_of, members_of}
use Rattle.kmipa_explain.specs.declared.held.ValueHeld.{ValueHeld}
use Rattle.kmipa_ops.specs.declared.judged.Judged.TheVariants.{ActivationDate}
use Rattle.kmipa_telling.specs.AttributeClaims.{TellsValueHeld}
use Rattle.kmipa_telling.proofs.ListLemmas.{one_object_more}
use Rattle.kmipa_telling.proofs.attribute_claims.values_list.Goals as goal

pub values-preserved : goal.values-preserved
values-preserved c =
    let d : ValueHeld = record { attribute = ActivationDate; shown = None; held = None } in
    one_object_more TellsValueHeld c.args.values.now c.values.held-index d (get_or c.args.values.now c.values.held-index d) (items_of c.values.list) (items_of c.push_object.new.self)
    (members_of c.in_ok-value_held_object.field-0) (search rules) refl c.values.invariant c.in_ok-value_held_object.ensures c.in_ok-push_object.ensures.ok
