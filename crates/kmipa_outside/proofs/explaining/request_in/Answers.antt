use Rattle.std.proofs.Common.{refl}
use Rattle.kmipa_ttlv.specs.ViewTree.{view_tree}
use Rattle.kmipa_msgs.specs.Messages.{request_of}
use Rattle.kmipa_msgs.specs.Requests.{RequestFault, SaysRequest}
use Rattle.kmipa_check.proofs.MessageLemmas.{not_outside}
use Rattle.kmipa_check.proofs.ReadingLemmas.{wrong_said}
use Rattle.kmipa_outside.proofs.explaining.request_in.Goals as goal

pub returns-in-Err-Outside-clause-memory : goal.returns-in-Err-Outside-clause-memory
returns-in-Err-Outside-clause-memory c =
    let bytes = c.args.bytes.now in
    let o = c.in-Err-Outside.field-0-0 in
    absurd (not_outside SaysRequest RequestFault bytes c.requires.0 o.item o.kind c.requires.1
    (wrong_said request_of (SaysRequest (view_tree c.in-Some.view)) RequestFault bytes bytes c.in-Some.view c.in-Err-Outside.field-0 o refl c.in-Some.ensures c.in-Err-Outside.field-0-is
    c.in-Err-Outside.ensures))
