use Rattle.std.proofs.Common.{◌∙◌, ℤ, map, sym, ap, rules}
use mir.Val.{SFits}
use mir.Syntax.{w32}
use Rattle.std.proofs.lemmas.Int.{to_z-of_z}
use Rattle.kmipa_record.specs.Witnesses.{birth_of}
use Rattle.kmipa_check.specs.Numbers.{place_in}
use Rattle.kmipa_check.proofs.BirthLemmas.{birth_found, birth_too_large}
use Rattle.kmipa_check.proofs.completing.place_of_birth.Goals as goal

pub returns-in-Ok : goal.returns-in-Ok
returns-in-Ok c =
    let fits : SFits w32 c.in-Ok.item = search rules in
    let at = c.place.ensures ∙ ap (λ (z : ℤ). place_in c.args.places.now z) (to_z-of_z w32 c.in-Ok.item fits) in
    birth_found c.args.births.now c.args.places.now c.requires.indexed c.in-Ok.item c.args.place c.in-Ok.ensures.1 c.place.result (sym at)

pub returns-in-Err : goal.returns-in-Err
returns-in-Err c = birth_too_large (map birth_of c.args.births.now) c.args.place c.requires.numbered c.in-Err.ensures
