use Rattle.std.proofs.Common.{ℤ, OkIff, unsigned_abs, refl, subst, rules}
use mir.Val.{SFits}
use mir.Syntax.{w32}
use Rattle.std.proofs.lemmas.Int.{to_z-of_z}
use Rattle.std.specs.Int.{FitsUnsignedBits}
use Rattle.kmipa_check.proofs.WholeOrderLemmas.{reported_number}
use Rattle.kmipa_stream.proofs.auditor.Auditor.unless_left_out.Goals as goal

pub returns-in-None : goal.returns-in-None
returns-in-None c = λ turns names. (refl, c.in-None.ensures turns names)

pub returns-in-Some : goal.returns-in-Some
returns-in-Some c = λ turns names.
    let fits : SFits w32 c.in-Some.number = search rules in
    let P : ℤ → Type 0 = λ z. OkIff c.try_from.result (FitsUnsignedBits 64 z) (unsigned_abs z) in
    let reported = subst P (to_z-of_z w32 c.in-Some.number fits) c.try_from.ensures in
    (c.in-Some.number, c.in-Some.ensures turns names, (λ one. reported_number c.try_from.result c.in-Some.number c.unwrap_or.result reported c.unwrap_or.ensures one fits), refl)
