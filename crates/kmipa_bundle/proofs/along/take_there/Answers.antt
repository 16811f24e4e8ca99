use Rattle.std.proofs.Common.{rules, ◌≡◌, ◌∙◌, map, slice_get, Some, FitsSigned, w64, refl}
use Rattle.std.proofs.lemmas.Int.{to_z-of_z}
use Rattle.kmipa_passed.specs.Leaving.{held_of}
use Rattle.kmipa_batch.proofs.PlaceLemmas.{got_some, got_none}
use Rattle.kmipa_aside.specs.Sights.{sight_of}
use Rattle.kmipa_places.specs.Places.{place_of}
use Rattle.kmipa_bundle.proofs.ReadableLemmas.{readable_there}
use Rattle.kmipa_bundle.proofs.RunLemmas.{there_none, there_taken}
use Rattle.kmipa_bundle.proofs.along.take_there.Goals as goal

pub returns-in_default : goal.returns-in_default
returns-in_default g c =
    there_none (sight_of c.args.sight) (g.L.Ledger.state c.args.ledger.now) (held_of c.args.before) c.args.call.now.stamp
    (slice_get (map place_of c.args.call.now.places.items) c.args.place) c.args.before
    (got_none place_of c.deref.result.now c.args.call.now.places.items c.args.place c.deref.ensures.value c.in_default.ensures.lookup.3) refl
    c.requires.sound

pub take_place-requires-clause-readable : goal.take_place-requires-clause-readable
take_place-requires-clause-readable g c =
    readable_there (map place_of c.args.call.now.places.items) c.args.place (place_of c.in-Some.there.now) c.requires.readable
    (got_some place_of c.deref.result.now c.args.call.now.places.items c.args.place c.in-Some.there.now c.deref.ensures.value c.in-Some.ensures.lookup.3.0 c.in-Some.ensures.lookup.1)

pub returns : goal.returns
returns g c =
    let there : slice_get (map place_of c.args.call.now.places.items) c.args.place ≡ Some (place_of c.in-Some.there.now) =
    got_some place_of c.deref.result.now c.args.call.now.places.items c.args.place c.in-Some.there.now c.deref.ensures.value c.in-Some.ensures.lookup.3.0 c.in-Some.ensures.lookup.1 in
    let fits : FitsSigned w64 c.stamp_of-t.result = search rules in
    there_taken (sight_of c.args.sight) (g.L.Ledger.state c.args.ledger.now) (held_of c.args.before) _ c.args.call.now.stamp (place_of c.in-Some.there.now)
    (slice_get (map place_of c.args.call.now.places.items) c.args.place)
    (to_z-of_z w64 c.stamp_of-t.result fits ∙ c.stamp_of-t.ensures) there
    c.take_place.result (g.L.Ledger.state c.take_place.new.ledger) c.take_place.ensures
