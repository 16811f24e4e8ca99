use Rattle.std.proofs.Common.{◌-◌, length}
use Rattle.kmipa_turns.proofs.AsideLemmas.{ExceptedSoFar}
use Rattle.kmipa_turns.proofs.asides.excepted_in.Given as goal

abbrev pub invariant-places : goal.invariant-places
invariant-places l = ExceptedSoFar l.places l.at l.count

abbrev pub decreases-places : goal.decreases-places
decreases-places l = length l.places - l.at
