use Rattle.std.proofs.Common.{◌-◌, length, map}
use Rattle.kmipa_msgs.specs.Messages.{answer_of}
use Rattle.kmipa_unfit.proofs.BelowLemmas.{EachBelow}
use Rattle.kmipa_unfit.proofs.FailedLemmas.{Right}
use Rattle.kmipa_unfit.proofs.orders.first_failed.Given as goal

abbrev pub invariant-answers : goal.invariant-answers
invariant-answers l = EachBelow Right (map answer_of l.answers) l.place

abbrev pub decreases-answers : goal.decreases-answers
decreases-answers l = length l.answers - l.place
