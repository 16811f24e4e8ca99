use Rattle.std.proofs.Common.{◌≡◌, ◌++◌, drop, length, map}
use Rattle.std.specs.List.{zip}
use Rattle.std.specs.Vec.Iter.{into_iter_items, into_iter_len}
use Rattle.kmipa_msgs.specs.Messages.{answer_of, ask_of}
use Rattle.kmipa_places.specs.Places.{place_of}
use Rattle.kmipa_trail.specs.Whole.{judged_pair}
use Rattle.kmipa_trail.proofs.whole.judged_places.Given as goal

abbrev pub invariant-loop-ask : goal.invariant-loop-ask
invariant-loop-ask l = (map place_of l.places.items ++ map judged_pair (zip (map ask_of (drop l.ask-index l.asks)) (map answer_of (into_iter_items l.answers)))
    ≡ map judged_pair (zip (map ask_of l.asks) (map answer_of (into_iter_items l.initial.answers))))
    × (into_iter_len l.answers ≡ length (into_iter_items l.answers))
