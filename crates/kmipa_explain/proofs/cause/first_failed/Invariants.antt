use Rattle.std.proofs.Common.{◌-◌, length, map}
use Rattle.kmipa_msgs.specs.Messages.{answer_of}
use Rattle.kmipa_explain.proofs.FailedLemmas.{fails}
use Rattle.kmipa_explain.proofs.KeptLemmas.{NoneBelow}
use Rattle.kmipa_explain.proofs.cause.first_failed.Given as goal

abbrev pub invariant-answers : goal.invariant-answers
invariant-answers l = NoneBelow fails (map answer_of l.answers) l.place

abbrev pub decreases-answers : goal.decreases-answers
decreases-answers l = length l.answers - l.place
