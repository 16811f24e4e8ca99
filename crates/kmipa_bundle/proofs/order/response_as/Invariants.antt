use Rattle.std.proofs.Common.{◌≡◌, map, take}
use Rattle.kmipa_msgs.specs.Messages.{answer_of}
use Rattle.kmipa_bundle.specs.Shapes.{answers_as}
use Rattle.kmipa_bundle.proofs.order.response_as.Given as goal

abbrev pub invariant-loop-outcome : goal.invariant-loop-outcome
invariant-loop-outcome l = map answer_of l.items.items ≡ answers_as (take l.outcome-index l.outcome-items)
