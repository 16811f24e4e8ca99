use Rattle.std.proofs.Common.{◌≡◌, map, take}
use Rattle.kmipa_msgs.specs.Messages.{ask_of}
use Rattle.kmipa_turns.proofs.filling.copy_asks.Given as goal

abbrev pub invariant-loop-ask : goal.invariant-loop-ask
invariant-loop-ask l = map ask_of l.copies.items ≡ map ask_of (take l.ask-index l.asks)
