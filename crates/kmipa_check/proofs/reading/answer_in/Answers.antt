use Rattle.std.proofs.Common.{refl}
use Rattle.kmipa_ttlv.specs.ViewTree.{view_tree}
use Rattle.kmipa_msgs.specs.declared.kind.OutsideKind.TheVariants.{NotAMessage}
use Rattle.kmipa_msgs.specs.Messages.{request_of, response_of}
use Rattle.kmipa_msgs.specs.Responses.{ResponseFault, SaysResponse}
use Rattle.kmipa_check.specs.Calls.{no_item}
use Rattle.kmipa_check.proofs.ReadingLemmas.{wrong_said}
use Rattle.kmipa_check.proofs.reading.answer_in.Goals as goal

pub returns-in_default : goal.returns-in_default
returns-in_default c = (refl, (0, NotAMessage, no_item c.in_default.ensures refl refl))

pub returns-in-Err-Outside : goal.returns-in-Err-Outside
returns-in-Err-Outside c = (
  refl,
  (
    c.in-Err-Outside.field-0-0.item,
    c.in-Err-Outside.field-0-0.kind,
    wrong_said response_of (SaysResponse (view_tree c.in-Some.view) (request_of c.args.request.now)) (λ t. ResponseFault t (request_of c.args.request.now)) c.args.answer.now c.args.answer.now c.in-Some.view
        c.in-Err-Outside.field-0 c.in-Err-Outside.field-0-0 refl c.in-Some.ensures c.in-Err-Outside.field-0-is c.in-Err-Outside.ensures,
  ),
)
