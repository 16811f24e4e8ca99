use Rattle.std.proofs.Common.{◌≡◌, ◌≤◌, ◌-◌, ◌++◌, List, length, map}
use Rattle.kmipa_msgs.specs.Messages.{AskOf, ask_of}
use Rattle.kmipa_parts.proofs.call.with_idle.Given as goal

abbrev pub invariant-more : goal.invariant-more
invariant-more l = (rest : List AskOf) × (map ask_of l.all.items ≡ map ask_of l.initial.all.items ++ rest) × (length l.initial.all.items ≤ l.count → length l.all.items ≤ l.count)

abbrev pub decreases-more : goal.decreases-more
decreases-more l = l.count - length l.all.items
