use Rattle.std.proofs.Common.{Err, refl, subst}
use Rattle.kmipa_ttlv.specs.Tree.{Tree}
use Rattle.kmipa_ttlv.specs.ViewTree.{view_tree}
use Rattle.kmipa_msgs.specs.declared.fault.ReadFault.{ReadFault}
use Rattle.kmipa_msgs.specs.Messages.{ask_of, payload_of}
use Rattle.kmipa_msgs.specs.Outside.{Inside, OutsideAt, TellsSaid}
use Rattle.kmipa_msgs.specs.Payloads.{SaysPayload, PayloadFault}
use Rattle.kmipa_check.proofs.filling.read_fill.Goals as goal

pub returns-in-Ok : goal.returns-in-Ok
returns-in-Ok c =
    let P : Tree → Type 0 = λ t. Inside (SaysPayload t (ask_of c.args.ask.now)) (PayloadFault t (ask_of c.args.ask.now)) (payload_of c.in-Ok.payload) in
    subst P c.lend-view.ensures c.in-Ok.ensures

pub returns-in-Err-Outside : goal.returns-in-Err-Outside
returns-in-Err-Outside c =
    let P : Tree → Type 0 = λ t. OutsideAt (PayloadFault t (ask_of c.args.ask.now)) c.in-Err-Outside.field-0-0.item c.in-Err-Outside.field-0-0.kind in
    let t = view_tree c.lend-view.result in
    let R : ReadFault → Type 0 = λ x. TellsSaid payload_of (SaysPayload t (ask_of c.args.ask.now)) (PayloadFault t (ask_of c.args.ask.now)) (Err x) in
    ((c.in-Err-Outside.field-0-0.item, c.in-Err-Outside.field-0-0.kind, subst P c.lend-view.ensures (subst R c.in-Err-Outside.field-0-is c.in-Err-Outside.ensures)), refl)
