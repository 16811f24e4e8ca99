use Rattle.std.proofs.Common.{List, ℕ, Option, subst, sym}
use Rattle.kmipa_session.specs.Sealing.{SaysSeals}
use Rattle.kmipa_session.proofs.sealing.say_verdict.Goals as goal

pub returns-in-Some : goal.returns-in-Some
returns-in-Some c =
    let said = c.say_expected.result in
    let P : Option (List ℕ) → Type 0 = λ e. SaysSeals c.args.voice e c.args.torn c.args.head.now c.args.said.status c.args.said.lines.items said.status said.lines.items in
    subst P (sym c.in-Some.is) c.say_expected.ensures
