use Rattle.std.proofs.Common.{◌≡◌, map, take}
use Rattle.kmipa_msgs.specs.Messages.{answer_of}
use Rattle.kmipa_trail.specs.Whole.{outcome_in}
use Rattle.kmipa_trail.proofs.whole.outcomes_of.Given as goal

abbrev pub invariant-loop-answer : goal.invariant-loop-answer
invariant-loop-answer l = l.outcomes.items ≡ map outcome_in (map answer_of (take l.answer-index l.answers))
