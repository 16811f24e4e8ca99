use Rattle.std.proofs.Common.{◌∙◌, ap}
use Rattle.kmipa_ttlv.specs.ViewTree.{view_tree}
use Rattle.kmipa_msgs.specs.Messages.{ask_of, operation_asked, payload_of}
use Rattle.kmipa_msgs.specs.Payloads.{SaysPayloadOf, PayloadOfFault, payload_in}
use Rattle.kmipa_msgs.proofs.OutsideLemmas.{inside_alone}
use Rattle.kmipa_msgs.proofs.PayloadLemmas.{reads_payload}
use Rattle.kmipa_msgs.proofs.YieldsLemmas.{tells_unread}
use Rattle.kmipa_msgs.proofs.reading.payload.read_payload.Goals as goal

pub returns-in-Ok : goal.returns-in-Ok
returns-in-Ok c =
    let operation = operation_asked (ask_of c.args.ask.now).asked in
    let t = view_tree c.args.payload.now in
    inside_alone (SaysPayloadOf operation t) (PayloadOfFault operation t) (payload_in operation t) (payload_of c.in-Ok.payload) (c.in-Ok.ensures ∙ ap (λ o. payload_in o t) c.operation.ensures) (reads_payload operation t)

pub returns-in-Err : goal.returns-in-Err
returns-in-Err c =
    let operation = operation_asked (ask_of c.args.ask.now).asked in
    let t = view_tree c.args.payload.now in
    rw c.at.ensures (tells_unread payload_of (SaysPayloadOf operation t) (PayloadOfFault operation t) c.in-Err.unread (payload_in operation t) (rw c.operation.ensures at c.in-Err.ensures) (reads_payload operation t))
