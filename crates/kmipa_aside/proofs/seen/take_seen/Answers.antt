use Rattle.std.proofs.Common.{◌∙◌, refl, rules, subst, sym, ℤ}
use mir.Syntax.{w64}
use mir.Val.{SFits}
use Rattle.std.proofs.lemmas.Int.{to_z-of_z}
use Rattle.kmipa_msgs.specs.Messages.{answer_of, ask_of}
use Rattle.kmipa_passed.specs.Leaving.{held_of}
use Rattle.kmipa_aside.specs.Becoming.{stand_in}
use Rattle.kmipa_aside.specs.Missed.{IsMissing}
use Rattle.kmipa_aside.specs.Sights.{sight_of}
use Rattle.kmipa_aside.proofs.SeenLemmas.{missed_readable, missed_refused, missed_taken, none_missed_taken, seen_denied, seen_undenied}
use Rattle.kmipa_aside.proofs.seen.take_seen.Goals as goal

pub returns-in-Some : goal.returns-in-Some
returns-in-Some g c =
    seen_undenied (sight_of c.args.sight) c.args.item.moment (ask_of c.args.item.ask.now) (answer_of c.args.item.answer.now) (g.L.Ledger.state c.args.ledger.now) (held_of c.args.item.before) c.in-Some.why
    (sym c.is_denied.ensures ∙ c.if-is_denied.true) (sym c.frame_why.ensures ∙ c.in-Some.is)

pub returns-in-None : goal.returns-in-None
returns-in-None g c =
    seen_denied (sight_of c.args.sight) c.args.item.moment (ask_of c.args.item.ask.now) (answer_of c.args.item.answer.now) (g.L.Ledger.state c.args.ledger.now) (held_of c.args.item.before) c.requires.sound
    (sym c.is_denied.ensures ∙ c.if-is_denied.true) (sym c.frame_why.ensures ∙ c.in-None.is)

pub returns-in_default-missing : goal.returns-in_default-missing
returns-in_default-missing g c =
    let fits : SFits w64 c.args.item.moment = search rules in
    let s = g.L.Ledger.state c.args.ledger.now in
    let ask = ask_of c.args.item.ask.now in
    let answer = answer_of c.args.item.answer.now in
    let found = subst (λ (z : ℤ). IsMissing (sight_of c.args.sight) (stand_in s.now) z ask answer c.in-Ok.missing) (to_z-of_z w64 c.args.item.moment fits) c.in-Ok.ensures in
    none_missed_taken (sight_of c.args.sight) ask answer s (held_of c.args.item.before) c.args.item.moment c.args.item.moment refl c.in-Ok.missing found c.in_default-missing.is
    (sym c.is_denied.ensures ∙ c.if-is_denied.false) c.take_judged.result (g.L.Ledger.state c.take_judged.new.ledger) c.take_judged.ensures

pub take_judged-requires-2-clause-readable : goal.take_judged-requires-2-clause-readable
take_judged-requires-2-clause-readable g c =
    let fits : SFits w64 c.args.item.moment = search rules in
    missed_readable (sight_of c.args.sight) (ask_of c.args.item.ask.now) (answer_of c.args.item.answer.now) (g.L.Ledger.state c.args.ledger.now) (held_of c.args.item.before) _ c.args.item.moment
    (to_z-of_z w64 c.args.item.moment fits) c.in-Ok.missing c.in-Ok.ensures c.in-Some-missing.seen c.in-Some-missing.is

pub returns-in-Ok-take_judged : goal.returns-in-Ok-take_judged
returns-in-Ok-take_judged g c =
    let fits : SFits w64 c.args.item.moment = search rules in
    missed_taken (sight_of c.args.sight) (ask_of c.args.item.ask.now) (answer_of c.args.item.answer.now) (g.L.Ledger.state c.args.ledger.now) (held_of c.args.item.before) _ c.args.item.moment
    (to_z-of_z w64 c.args.item.moment fits) c.in-Ok.missing c.in-Ok.ensures c.in-Some-missing.seen c.in-Some-missing.is (sym c.is_denied.ensures ∙ c.if-is_denied.false) c.in-Ok-take_judged.field-0
    c.held_behind.result (g.L.Ledger.state c.take_judged-2.new.ledger) c.held_behind.ensures c.in-Ok-take_judged.ensures

pub returns : goal.returns
returns g c =
    let fits : SFits w64 c.args.item.moment = search rules in
    missed_refused (sight_of c.args.sight) (ask_of c.args.item.ask.now) (answer_of c.args.item.answer.now) (g.L.Ledger.state c.args.ledger.now) (held_of c.args.item.before) _ c.args.item.moment
    (to_z-of_z w64 c.args.item.moment fits) c.in-Ok.missing c.in-Ok.ensures c.in-Some-missing.seen c.in-Some-missing.is (sym c.is_denied.ensures ∙ c.if-is_denied.false) c.in-Err.refusal
    (g.L.Ledger.state c.take_judged-2.new.ledger) c.in-Err.ensures
