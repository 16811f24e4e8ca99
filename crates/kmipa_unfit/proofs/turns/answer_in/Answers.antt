use Rattle.kmipa_msgs.specs.Messages.{request_of}
use Rattle.kmipa_unfit.proofs.TurnLemmas.{answer_said}
use Rattle.kmipa_unfit.proofs.turns.answer_in.Goals as goal

pub returns-in-Some : goal.returns-in-Some
returns-in-Some c = answer_said (request_of c.args.request.now) c.args.answer.now c.in-Some.view c.read_response.result c.in-Some.ensures c.read_response.ensures
