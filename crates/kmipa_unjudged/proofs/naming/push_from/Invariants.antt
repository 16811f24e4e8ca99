use Rattle.std.proofs.Common.{◌≡◌, ◌++◌, ◌-◌, length, map, drop, suc}
use Rattle.kmipa_places.specs.Places.{place_of}
use Rattle.kmipa_unjudged.specs.Naming.{named_from}
use Rattle.kmipa_unjudged.specs.Told.{named_of}
use Rattle.kmipa_unjudged.proofs.naming.push_from.Given as goal

-- what is named so far, and by the places that are left, is all
abbrev pub invariant-places : goal.invariant-places
invariant-places l =
    map named_of l.named.items ++ named_from l.causes l.step.number (suc l.item) (map place_of (drop l.item l.places)) ≡ map named_of l.fn.named.items ++ named_from l.causes l.step.number 1 (map place_of l.places)

abbrev pub decreases-places : goal.decreases-places
decreases-places l = length l.places - l.item
