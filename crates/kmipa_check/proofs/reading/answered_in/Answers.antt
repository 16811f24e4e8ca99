use Rattle.std.proofs.Common.{ℕ, ℤ, List, rules, subst}
use Rattle.std.proofs.lemmas.Int.{to_z-of_z}
use mir.Val.{SFits}
use mir.Syntax.{w32}
use Rattle.kmipa_msgs.specs.Messages.{request_of}
use Rattle.kmipa_check.specs.CallReading.{ResponseRead}
use Rattle.kmipa_check.proofs.reading.answered_in.Goals as goal

pub returns : goal.returns
returns c =
    let fits : SFits w32 c.args.end.now.call = search rules in
    let P : ℤ → Type 0 = λ z. ResponseRead z (request_of c.args.request.now) c.deref.result.now c.response_in.result in
    let Q : List ℕ → Type 0 = λ l. ResponseRead c.args.end.now.call (request_of c.args.request.now) l c.response_in.result in
    subst Q c.deref.ensures.value (subst P (to_z-of_z w32 c.args.end.now.call fits) c.response_in.ensures)
