use Rattle.std.proofs.Common.{map}
use Rattle.kmipa_msgs.specs.Messages.{answer_of}
use Rattle.kmipa_batch.proofs.ShapeLemmas.{NoneBelow}
use Rattle.kmipa_batch.proofs.shape.first_failed.Given as goal

abbrev pub invariant-loop-place : goal.invariant-loop-place
invariant-loop-place l = NoneBelow (map answer_of l.answers) l.place
