use Rattle.std.proofs.Common.{◌≡◌, map, take}
use Rattle.kmipa_ttlv.specs.Tree.{more, forest}
use Rattle.kmipa_msgs.specs.Messages.{answer_of, response_of}
use Rattle.kmipa_msgs.specs.Written.{written_answer, written_response_header}
use Rattle.kmipa_msgs.specs.Writing.{fields_of}
use Rattle.kmipa_msgs.proofs.writing.response.write_response.Given as goal

abbrev pub invariant-loop-answer : goal.invariant-loop-answer
invariant-loop-answer l = fields_of l.fields ≡ more (written_response_header (response_of l.response)) (forest written_answer (map answer_of (take l.answer-index l.answer-items)))
