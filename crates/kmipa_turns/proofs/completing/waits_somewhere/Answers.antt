use Rattle.std.proofs.Common.{map, arith}
use Rattle.std.proofs.lemmas.List.{length-map}
use Rattle.kmipa_places.specs.Places.{place_of}
use Rattle.kmipa_check.proofs.PlaceLemmas.{mapped_at}
use Rattle.kmipa_turns.proofs.FullLemmas.{waits_more, waits_nowhere}
use Rattle.kmipa_turns.proofs.completing.waits_somewhere.Goals as goal

pub places-preserved : goal.places-preserved
places-preserved c =
    waits_more (map place_of c.args.places.now) c.places.at (place_of c.index-places-at.result) (mapped_at place_of c.args.places.now c.places.at c.index-places-at.result c.places-test.true c.index-places-at.is)
    (λ w. let yes = c.if-waits.ensures.1 w in absurd cc) c.places.invariant

pub returns : goal.returns
returns c = waits_nowhere (map place_of c.args.places.now) c.places.at (omega (arith, c.places-test.false, length-map c.args.places.now place_of)) c.places.invariant
