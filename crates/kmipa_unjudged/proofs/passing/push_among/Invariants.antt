use Rattle.std.proofs.Common.{◌≡◌, ◌++◌, map, drop}
use Rattle.kmipa_places.specs.Places.{place_of}
use Rattle.kmipa_unjudged.specs.Passing.{passed_among}
use Rattle.kmipa_unjudged.proofs.passing.push_among.Given as goal

-- those so far, and those of the places that are left, are all
abbrev pub invariant-places : goal.invariant-places
invariant-places l = l.numbers.items ++ passed_among (map place_of (drop l.place-index l.places)) ≡ l.fn.numbers.items ++ passed_among (map place_of l.places)
