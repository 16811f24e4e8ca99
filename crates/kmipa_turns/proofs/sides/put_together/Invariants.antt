use Rattle.std.proofs.Common.{◌≡◌, ◌++◌, length, map, option_map}
use Rattle.std.specs.Vec.Iter.{into_iter_items, into_iter_len}
use Rattle.kmipa_msgs.specs.Messages.{answer_of, ask_of}
use Rattle.kmipa_places.specs.Places.{place_of}
use Rattle.kmipa_turns.specs.Parting.{joined}
use Rattle.kmipa_turns.proofs.sides.put_together.Given as goal

abbrev pub invariant-places : goal.invariant-places
invariant-places l = (map place_of l.places.items ++ joined (map (option_map place_of) (into_iter_items l.place-iterator)) (map ask_of (into_iter_items l.asks)) (map answer_of (into_iter_items l.answers))
    ≡ joined (map (option_map place_of) (into_iter_items l.initial.place-iterator)) (map ask_of (into_iter_items l.initial.asks)) (map answer_of (into_iter_items l.initial.answers)))
    × (into_iter_len l.place-iterator ≡ length (into_iter_items l.place-iterator))
    × (into_iter_len l.asks ≡ length (into_iter_items l.asks))
    × (into_iter_len l.answers ≡ length (into_iter_items l.answers))
