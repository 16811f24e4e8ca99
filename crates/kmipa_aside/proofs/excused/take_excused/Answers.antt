use Rattle.std.proofs.Common.{rules, ◌∙◌, sym, subst, ℤ}
use mir.Syntax.{w64}
use mir.Val.{SFits}
use Rattle.std.proofs.lemmas.Int.{to_z-of_z}
use Rattle.kmipa_msgs.specs.Messages.{answer_of, ask_of, rules_of}
use Rattle.kmipa_passed.specs.Leaving.{held_of}
use Rattle.kmipa_aside.specs.Does.{DoesExcused}
use Rattle.kmipa_aside.specs.Explains.{Took}
use Rattle.kmipa_aside.specs.Taking.{NoBytes}
use Rattle.kmipa_aside.proofs.TakenLemmas.{took_case}
use Rattle.kmipa_aside.proofs.excused.take_excused.Goals as goal

pub returns-in-Ok : goal.returns-in-Ok
returns-in-Ok g c =
    let fits : SFits w64 c.args.item.moment = search rules in
    let s = g.L.Ledger.state c.args.ledger.now in
    let u = g.L.Ledger.state c.leave.new.ledger in
    let ask = ask_of c.args.item.ask.now in
    let answer = answer_of c.args.item.answer.now in
    subst (λ (z : ℤ). Took (DoesExcused (rules_of c.args.rules.now) z ask answer) NoBytes s (held_of c.args.item.before) u (held_of c.held_behind.result)) (to_z-of_z w64 c.args.item.moment fits)
    (took_case (rules_of c.args.rules.now) _ ask answer s u (held_of c.args.item.before) (held_of c.held_behind.result) c.case_of-case.result c.requires c.case_of-case.ensures
    (sym c.is_as_ever.ensures ∙ c.if-is_as_ever.false) (sym c.frame_why.ensures ∙ c.in_default.is) c.held_behind.ensures c.in-Ok.ensures)
