use Rattle.std.proofs.Common.{List, map, subst, rules}
use mir.Val.{SFits}
use mir.Syntax.{w64}
use Rattle.std.proofs.lemmas.Int.{to_z-of_z}
use Rattle.kmipa_places.specs.Calls.{read_of}
use Rattle.kmipa_places.specs.Places.{place_of}
use Rattle.kmipa_places.specs.declared.place.Place.{Place}
use Rattle.kmipa_turns.specs.Turning.{WaitsSomewhere}
use Rattle.kmipa_turns.proofs.FullLemmas.{at_moment, plain_full, plain_missing}
use Rattle.kmipa_turns.proofs.completing.plain.Goals as goal

pub returns-then-waits_somewhere : goal.returns-then-waits_somewhere
returns-then-waits_somewhere c = λ g t plain.
    let P : List Place → Type 0 = λ ps. WaitsSomewhere (map place_of ps) in
    plain_missing g (read_of c.args.said) t plain (subst P c.as_slice.ensures.value c.if-waits_somewhere.ensures)

pub returns : goal.returns
returns c = λ g t plain.
    let fits : SFits w64 c.args.moment = search rules in
    let x = read_of c.args.said in
    let P : List Place → Type 0 = λ ps. WaitsSomewhere (map place_of ps) → ⊥ in
    plain_full g x t c.args.moment _ plain (subst P c.as_slice.ensures.value c.if-waits_somewhere.ensures) (at_moment x _ c.args.moment (to_z-of_z w64 c.args.moment fits))
