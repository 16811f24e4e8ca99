use Rattle.kmipa_msgs.specs.Messages.{request_of}
use Rattle.kmipa_check.proofs.StampLemmas.{request_unsaid, response_reported}
use Rattle.kmipa_check.proofs.stamp.response_of.Goals as goal

pub returns-in-Ok : goal.returns-in-Ok
returns-in-Ok c = response_reported c.args.begin.now.message.items c.args.message.now (request_of c.in-Ok.request) c.answer_in.result c.in-Ok.ensures c.answer_in.ensures

pub returns-in-Err-Outside : goal.returns-in-Err-Outside
returns-in-Err-Outside c = λ request response said reported.
    request_unsaid c.args.begin.now.message.items _ c.in-Err-Outside.field-0 c.in-Err-Outside.field-0-0 c.in-Err-Outside.field-0-1 c.in-Err-Outside.field-0-2 c.in-Err-Outside.field-0-is c.in-Err-Outside.ensures
    request response c.args.message.now said reported
