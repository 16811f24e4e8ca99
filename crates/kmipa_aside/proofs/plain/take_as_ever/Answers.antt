use Rattle.std.proofs.Common.{rules, ◌∙◌, ap, subst, ℕ, ℤ, List, Option, Err}
use mir.Syntax.{w64}
use mir.Val.{SFits}
use Rattle.std.proofs.lemmas.Int.{to_z-of_z}
use Rattle.kmipa_store.specs.Ledger.{with_aside}
use Rattle.kmipa_msgs.specs.Messages.{answer_of, ask_of, rules_of}
use Rattle.kmipa_ops.specs.Placeholders.{placeholder_of}
use Rattle.kmipa_passed.specs.Leaving.{held_of}
use Rattle.kmipa_aside.specs.Ever.{DoesPlain, taken_in}
use Rattle.kmipa_aside.specs.Explains.{Took}
use Rattle.kmipa_aside.specs.Taking.{TakenAsEver, Tells}
use Rattle.kmipa_aside.proofs.PlainLemmas.{plain_refused, plain_taken}
use Rattle.kmipa_aside.proofs.plain.take_as_ever.Goals as goal

pub returns-in-Err : goal.returns-in-Err
returns-in-Err g c =
    let fits : SFits w64 c.args.item.moment = search rules in
    let s = g.L.Ledger.state c.args.ledger.now in
    let u = g.L.Ledger.state c.take.new.ledger in
    let rules = rules_of c.args.rules.now in
    let ask = ask_of c.args.item.ask.now in
    let answer = answer_of c.args.item.answer.now in
    let before = held_of c.args.item.before in
    subst (λ (z : ℤ). TakenAsEver rules s before z ask answer (Err c.in-Err.refusal) u) (to_z-of_z w64 c.args.item.moment fits)
    (plain_refused rules _ ask answer s u before c.in-Err.refusal (placeholder_of c.in-Ok.placeholder) (placeholder_of c.take.new.placeholder) c.requires.plain c.in-Ok.ensures c.in-Err.ensures)

pub returns-in-Ok-take_in : goal.returns-in-Ok-take_in
returns-in-Ok-take_in g c =
    let fits : SFits w64 c.args.item.moment = search rules in
    let s = g.L.Ledger.state c.args.ledger.now in
    let u = g.L.Ledger.state c.take.new.ledger in
    let v = g.L.Ledger.state c.take_in.new.ledger in
    let rules = rules_of c.args.rules.now in
    let ask = ask_of c.args.item.ask.now in
    let answer = answer_of c.args.item.answer.now in
    let before = held_of c.args.item.before in
    let behind = held_of c.held_behind.result in
    subst (λ (z : ℤ). Took (DoesPlain rules z ask answer) (Tells ask answer) s before v behind) (to_z-of_z w64 c.args.item.moment fits)
    (plain_taken rules _ ask answer s u before behind v (placeholder_of c.in-Ok.placeholder) (placeholder_of c.take.new.placeholder) c.requires.sound c.requires.plain c.in-Ok.ensures c.in-Ok-take.ensures
    (c.in-Ok-take_in.ensures ∙ ap (λ (o : Option (List ℕ)). with_aside u (taken_in o u.now.aside)) c.id_born.ensures) c.held_behind.ensures)
