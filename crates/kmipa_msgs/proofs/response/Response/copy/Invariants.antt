use Rattle.std.proofs.Common.{◌≡◌, map, take}
use Rattle.kmipa_msgs.specs.Messages.{answer_of}
use Rattle.kmipa_msgs.proofs.response.Response.copy.Given as goal

abbrev pub invariant-loop-answer : goal.invariant-loop-answer
invariant-loop-answer l = map answer_of l.items.items ≡ map answer_of (take l.answer-index l.answer-items)
