use Rattle.std.proofs.Common.{◌≡◌, ℤ, pos, true, get_or, subst, rules}
use Rattle.std.specs.Prelude.{int_lt}
use mir.Val.{SFits}
use mir.Syntax.{w32}
use Rattle.std.proofs.lemmas.Int.{to_z-of_z}
use Rattle.kmipa_check.proofs.PlacesLemmas.{negative}
use Rattle.kmipa_check.proofs.places.places_of.Goals as goal

pub returns-then-numbers-at-lt0 : goal.returns-then-numbers-at-lt0
returns-then-numbers-at-lt0 c =
    let number : ℤ = get_or c.args.numbers.now c.numbers.at (pos 0) in
    let fits : SFits w32 number = search rules in
    let P : ℤ → Type 0 = λ z. int_lt z (pos 0) ≡ true in
    negative c.args.numbers.now c.numbers.at c.numbers-test.true (subst P (to_z-of_z w32 number fits) c.if-numbers-at-lt0.true)
