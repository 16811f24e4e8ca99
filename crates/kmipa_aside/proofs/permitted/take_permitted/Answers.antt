use Rattle.std.proofs.Common.{◌∙◌, Err, subst, sym}
use Rattle.kmipa_msgs.specs.Messages.{answer_of, ask_of}
use Rattle.kmipa_passed.specs.Leaving.{held_of}
use Rattle.kmipa_ops.specs.declared.why.Refusal.{Refusal}
use Rattle.kmipa_aside.specs.Places.{judged}
use Rattle.kmipa_aside.specs.Seen.{TakenSeen}
use Rattle.kmipa_aside.specs.Sights.{sight_of}
use Rattle.kmipa_aside.proofs.PermittedLemmas.{forbidden_done, forbidden_refused, forbidden_starved, permitted_open}
use Rattle.kmipa_aside.proofs.permitted.take_permitted.Goals as goal

pub returns-in_default : goal.returns-in_default
returns-in_default g c =
    permitted_open (sight_of c.args.sight) c.args.item.moment (ask_of c.args.item.ask.now) (answer_of c.args.item.answer.now) (g.L.Ledger.state c.args.ledger.now) (held_of c.args.item.before)
    (sym c.forbids.ensures ∙ c.in_default.is) c.take_seen.result (g.L.Ledger.state c.take_seen.new.ledger) c.take_seen.ensures

pub returns-in-Ok-taken : goal.returns-in-Ok-taken
returns-in-Ok-taken g c =
    forbidden_done (sight_of c.args.sight) c.args.item.moment (ask_of c.args.item.ask.now) (answer_of c.args.item.answer.now) (g.L.Ledger.state c.args.ledger.now) (held_of c.args.item.before)
    (g.L.Ledger.state c.mark.new.self) (g.L.Ledger.state c.take_seen-taken.new.ledger) (g.L.Ledger.state c.back.new.self) c.in-Some.why c.in-Ok-taken.field-0 c.requires.sound c.in-Ok.ensures.meaning.1
    (sym c.forbids.ensures ∙ c.in-Some.is) c.in-Ok-taken.ensures c.back.ensures.meaning

pub returns-in-Impossible : goal.returns-in-Impossible
returns-in-Impossible g c =
    let P : Refusal → Type 0 =
    λ r. TakenSeen (sight_of c.args.sight) (g.L.Ledger.state c.mark.new.self) (held_of c.args.item.before) c.args.item.moment (judged (ask_of c.args.item.ask.now) (answer_of c.args.item.answer.now)) (Err r)
    (g.L.Ledger.state c.take_seen-taken.new.ledger) in
    forbidden_refused (sight_of c.args.sight) c.args.item.moment (ask_of c.args.item.ask.now) (answer_of c.args.item.answer.now) (g.L.Ledger.state c.args.ledger.now) (held_of c.args.item.before)
    (g.L.Ledger.state c.mark.new.self) (g.L.Ledger.state c.take_seen-taken.new.ledger) (g.L.Ledger.state c.back.new.self) c.in-Some.why c.in-Impossible.other c.lower_of.result c.lower_of.ensures c.in-Ok.ensures.meaning.1
    (sym c.forbids.ensures ∙ c.in-Some.is) (subst P c.in-Impossible.is c.in-Err.ensures) c.back.ensures.meaning

pub returns-in-Memory : goal.returns-in-Memory
returns-in-Memory g c =
    let P : Refusal → Type 0 =
    λ r. TakenSeen (sight_of c.args.sight) (g.L.Ledger.state c.mark.new.self) (held_of c.args.item.before) c.args.item.moment (judged (ask_of c.args.item.ask.now) (answer_of c.args.item.answer.now)) (Err r)
    (g.L.Ledger.state c.take_seen-taken.new.ledger) in
    forbidden_starved (sight_of c.args.sight) c.args.item.moment (ask_of c.args.item.ask.now) (answer_of c.args.item.answer.now) (g.L.Ledger.state c.args.ledger.now) (held_of c.args.item.before)
    (g.L.Ledger.state c.mark.new.self) (g.L.Ledger.state c.take_seen-taken.new.ledger) (g.L.Ledger.state c.back.new.self) c.in-Ok.ensures.meaning.1 (subst P c.in-Memory.is c.in-Err.ensures)
    c.back.ensures.meaning
