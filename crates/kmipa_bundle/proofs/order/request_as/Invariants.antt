use Rattle.std.proofs.Common.{◌≡◌, map, replicate}
use Rattle.kmipa_msgs.specs.Messages.{ask_of}
use Rattle.kmipa_bundle.specs.Shapes.{some_ask}
use Rattle.kmipa_bundle.proofs.order.request_as.Given as goal

abbrev pub invariant-loop : goal.invariant-loop
invariant-loop l = map ask_of l.items.items ≡ replicate l.counter some_ask
