use Rattle.std.proofs.Common.{◌≡◌, length, map}
use Rattle.std.specs.Vec.Iter.{into_iter_items, into_iter_len}
use Rattle.kmipa_places.specs.Places.{place_of}
use Rattle.kmipa_turns.specs.Parting.{sides_of}
use Rattle.kmipa_turns.proofs.FullLemmas.{PartedUpTo}
use Rattle.kmipa_turns.proofs.sides.Sides.of.Given as goal

abbrev pub invariant-places : goal.invariant-places
invariant-places l = PartedUpTo (map place_of (into_iter_items l.initial.place-iterator)) (map place_of (into_iter_items l.place-iterator)) (sides_of l.sides)
    × (into_iter_len l.place-iterator ≡ length (into_iter_items l.place-iterator))
