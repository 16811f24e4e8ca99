use Rattle.std.proofs.Common.{rules}
use Rattle.std.proofs.lemmas.Int.{to_z-of_z}
use mir.Val.{SFits}
use mir.Syntax.{w32, w64}
use Rattle.kmipa_check.proofs.StampLemmas.{both_at, none_answered, none_begun, none_reported, stamp_reported}
use Rattle.kmipa_check.proofs.stamp.stamp_of.Goals as goal

pub returns-in_default : goal.returns-in_default
returns-in_default c =
    let fits : SFits w32 c.args.call = search rules in
    none_begun c.deref.result.now c.args.transcript.now.marks.items c.args.witness.now.turns.items _ c.args.call c.deref.ensures.value (to_z-of_z w32 c.args.call fits) c.in_default.ensures

pub returns-in_default-message_of : goal.returns-in_default-message_of
returns-in_default-message_of c =
    let fits : SFits w32 c.args.call = search rules in
    none_answered c.deref-2.result.now c.args.transcript.now.marks.items c.deref-3.result.now c.args.witness.now.turns.items _ c.args.call c.deref-2.ensures.value c.deref-3.ensures.value
    (to_z-of_z w32 c.args.call fits) c.in_default-message_of.ensures

pub returns-in-Ok : goal.returns-in-Ok
returns-in-Ok c =
    let fits : SFits w32 c.args.call = search rules in
    let long : SFits w64 c.in-Ok.response.stamp = search rules in
    stamp_reported c.args.transcript.now.marks.items c.args.witness.now.turns.items c.args.call c.in-Some.begin.now.message.items c.in-Some-message_of.message.now c.in-Ok.response _
    (both_at c.deref.result.now c.deref-2.result.now c.args.transcript.now.marks.items c.deref-3.result.now c.args.witness.now.turns.items _ c.args.call c.in-Some.begin.now.message.items
    c.in-Some-message_of.message.now c.deref.ensures.value c.deref-2.ensures.value c.deref-3.ensures.value (to_z-of_z w32 c.args.call fits) c.in-Some.ensures c.in-Some-message_of.ensures)
    c.in-Ok.ensures (to_z-of_z w64 c.in-Ok.response.stamp long)

pub returns-in-Err-Unfit : goal.returns-in-Err-Unfit
returns-in-Err-Unfit c =
    let fits : SFits w32 c.args.call = search rules in
    none_reported c.args.transcript.now.marks.items c.args.witness.now.turns.items c.args.call c.in-Some.begin.now.message.items c.in-Some-message_of.message.now c.in-Err-Unfit.field-0 c.in-Err-Unfit.field-0-0
    (both_at c.deref.result.now c.deref-2.result.now c.args.transcript.now.marks.items c.deref-3.result.now c.args.witness.now.turns.items _ c.args.call c.in-Some.begin.now.message.items
    c.in-Some-message_of.message.now c.deref.ensures.value c.deref-2.ensures.value c.deref-3.ensures.value (to_z-of_z w32 c.args.call fits) c.in-Some.ensures c.in-Some-message_of.ensures)
    c.in-Err-Unfit.field-0-is c.in-Err-Unfit.ensures
