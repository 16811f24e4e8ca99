use Rattle.std.proofs.Common.{◌-◌, length}
use Rattle.kmipa_turns.proofs.AsideLemmas.{AreSoFar}
use Rattle.kmipa_turns.proofs.asides.are_places.Given as goal

abbrev pub invariant-asides : goal.invariant-asides
invariant-asides l = AreSoFar l.count l.asides l.at

abbrev pub decreases-asides : goal.decreases-asides
decreases-asides l = length l.asides - l.at
