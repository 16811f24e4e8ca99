use Rattle.std.proofs.Common.{◌≡◌, map, take}
use Rattle.kmipa_msgs.specs.Messages.{ask_of}
use Rattle.kmipa_unfit.specs.UnfitParts.{number_asked}
use Rattle.kmipa_unfit.proofs.turns.operations_of.Given as goal

abbrev pub invariant-loop-ask : goal.invariant-loop-ask
invariant-loop-ask l = l.numbers.items ≡ map number_asked (map ask_of (take l.ask-index l.request.items.items))
