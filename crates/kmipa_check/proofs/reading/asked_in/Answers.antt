use Rattle.std.proofs.Common.{ℕ, ℤ, List, rules, subst}
use Rattle.std.proofs.lemmas.Int.{to_z-of_z}
use mir.Val.{SFits}
use mir.Syntax.{w32}
use Rattle.kmipa_check.specs.CallReading.{RequestRead}
use Rattle.kmipa_check.proofs.reading.asked_in.Goals as goal

pub returns : goal.returns
returns c =
    let fits : SFits w32 c.args.begin.now.call = search rules in
    let P : ℤ → Type 0 = λ z. RequestRead z c.deref.result.now c.request_in.result in
    let Q : List ℕ → Type 0 = λ l. RequestRead c.args.begin.now.call l c.request_in.result in
    subst Q c.deref.ensures.value (subst P (to_z-of_z w32 c.args.begin.now.call fits) c.request_in.ensures)
