use Rattle.kmipa_msgs.specs.Messages.{request_of, response_of}
use Rattle.kmipa_batch.specs.Shapes.{IsShapedBelow}
use Rattle.kmipa_batch.proofs.taking.first_unshaped.Given as goal

abbrev pub invariant-loop-place : goal.invariant-loop-place
invariant-loop-place l = IsShapedBelow (request_of l.request) (response_of l.response) l.place
