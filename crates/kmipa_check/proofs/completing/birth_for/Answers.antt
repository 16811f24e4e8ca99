use Rattle.std.proofs.Common.{◌<◌, Option, Some, ℕ, length, map, subst, arith}
use Rattle.std.proofs.lemmas.List.{length-map}
use Rattle.kmipa_record.specs.Witnesses.{birth_of}
use Rattle.kmipa_check.specs.Bearing.{IsPlaceFound}
use Rattle.kmipa_check.proofs.BirthLemmas.{birth_there}
use Rattle.kmipa_check.proofs.PlaceLemmas.{at_within, mapped_at}
use Rattle.kmipa_check.proofs.completing.birth_for.Goals as goal

pub returns-in-Some : goal.returns-in-Some
returns-in-Some c =
    let births = map birth_of c.args.births.now in
    let P : Option ℕ → Type 0 = λ o. IsPlaceFound births c.args.place o in
    let found = subst P c.in-Some.is c.place_of_birth.ensures in
    let within : c.in-Some.at < length c.args.births.now = omega (arith, at_within births c.in-Some.at found.0 found.1, length-map c.args.births.now birth_of) in
    birth_there c.args.births.now c.in-Some.at c.args.place c.index-births-at.result found
    (mapped_at birth_of c.args.births.now c.in-Some.at c.index-births-at.result within c.index-births-at.is)
