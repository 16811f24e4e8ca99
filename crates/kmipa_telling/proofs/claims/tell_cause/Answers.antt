use Rattle.std.proofs.Common.{◌∙◌, ap, codes}
use Rattle.serde_json.specs.Data.{array, put}
use Rattle.kmipa_explain.specs.declared.explanation.Cause.TheVariants as cause
use Rattle.kmipa_json.specs.Told.{members_of}
use Rattle.kmipa_telling.specs.Claims.{call_items}
use Rattle.kmipa_telling.proofs.ClaimLemmas.{cause_told}
use Rattle.kmipa_telling.proofs.claims.tell_cause.Goals as goal

pub returns-in_ok-calls_list-in-EarlierCalls : goal.returns-in_ok-calls_list-in-EarlierCalls
returns-in_ok-calls_list-in-EarlierCalls c =
    let before = members_of c.args.told.now in
    cause_told c.put_list.result c.args.cause.now (cause.EarlierCalls c.in-EarlierCalls.numbers) before (members_of c.put_list.new.self) _ c.in-EarlierCalls.is
    (λ e. e ∙ ap (λ items. put (codes "ended_before") (array items) before)
    (c.in_ok-calls_list-in-EarlierCalls.ensures ∙ ap call_items c.deref.ensures.value)) c.put_list.ensures.ok

pub returns-in_ok-before_object-in-StampBefore : goal.returns-in_ok-before_object-in-StampBefore
returns-in_ok-before_object-in-StampBefore c =
    let inner = members_of c.in_ok-before_object-in-StampBefore.field-0 in
    cause_told c.put_object.result c.args.cause.now (cause.StampBefore c.in-StampBefore.before) (members_of c.args.told.now) (members_of c.put_object.new.self) _
    c.in-StampBefore.is (λ e. (inner, c.in_ok-before_object-in-StampBefore.ensures, e)) c.put_object.ensures.ok

pub returns-in_ok-attributes_object-in-Missing : goal.returns-in_ok-attributes_object-in-Missing
returns-in_ok-attributes_object-in-Missing c =
    let inner = members_of c.in_ok-attributes_object-in-Missing.field-0 in
    cause_told c.put_object-in-Missing.result c.args.cause.now (cause.Missing c.in-Missing.held) (members_of c.args.told.now) (members_of c.put_object-in-Missing.new.self) _
    c.in-Missing.is (λ e. (inner, c.in_ok-attributes_object-in-Missing.ensures, e)) c.put_object-in-Missing.ensures.ok
