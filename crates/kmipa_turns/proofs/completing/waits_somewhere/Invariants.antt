use Rattle.std.proofs.Common.{◌-◌, length, map}
use Rattle.kmipa_places.specs.Places.{place_of}
use Rattle.kmipa_turns.proofs.FullLemmas.{NoneWaitsBelow}
use Rattle.kmipa_turns.proofs.completing.waits_somewhere.Given as goal

abbrev pub invariant-places : goal.invariant-places
invariant-places l = NoneWaitsBelow (map place_of l.places) l.at

abbrev pub decreases-places : goal.decreases-places
decreases-places l = length l.places - l.at
