use Rattle.std.proofs.Common.{refl}
use Rattle.kmipa_msgs.specs.Messages.{answer_of, ask_of, rules_of}
use Rattle.kmipa_passed.specs.Leaving.{held_of}
use Rattle.kmipa_aside.proofs.PlaceLemmas.{by_excused, by_listing, by_plain, by_reborn, not_excused, not_listing, not_reborn, plain_there, unborn, unexcused, unlisted}
use Rattle.kmipa_aside.proofs.placing.take_judged.Goals as goal

pub returns-in-Ok-Some : goal.returns-in-Ok-Some
returns-in-Ok-Some g c =
    let s = g.L.Ledger.state c.args.ledger.now in
    let rules = rules_of c.args.rules.now in
    let ask = ask_of c.args.item.ask.now in
    let answer = answer_of c.args.item.answer.now in
    let before = held_of c.args.item.before in
    by_excused rules ask answer s before _ c.args.item.moment refl c.in-Ok-Some.field-0 c.in-Ok-Some.after (g.L.Ledger.state c.take_excused.new.ledger) c.in-Ok-Some.field-0-is c.in-Ok-Some.ensures

pub returns-in-Err : goal.returns-in-Err
returns-in-Err g c =
    let s = g.L.Ledger.state c.args.ledger.now in
    let rules = rules_of c.args.rules.now in
    let ask = ask_of c.args.item.ask.now in
    let answer = answer_of c.args.item.answer.now in
    let before = held_of c.args.item.before in
    unexcused rules ask answer s before _ c.args.item.moment refl c.in-Err.refusal (g.L.Ledger.state c.take_excused.new.ledger) c.in-Err.ensures

pub returns-in-Ok-Some-take_listing : goal.returns-in-Ok-Some-take_listing
returns-in-Ok-Some-take_listing g c =
    let s = g.L.Ledger.state c.args.ledger.now in
    let rules = rules_of c.args.rules.now in
    let ask = ask_of c.args.item.ask.now in
    let answer = answer_of c.args.item.answer.now in
    let before = held_of c.args.item.before in
    let e = not_excused rules ask answer s before _ c.args.item.moment refl c.in-Ok-None.field-0 (g.L.Ledger.state c.take_excused.new.ledger) c.in-Ok-None.field-0-is c.in-Ok-None.ensures in
    by_listing rules ask answer s before _ c.args.item.moment refl (g.L.Ledger.state c.take_excused.new.ledger) e.1 c.in-Ok-Some-take_listing.field-0 c.in-Ok-Some-take_listing.after
    (g.L.Ledger.state c.take_listing.new.ledger) c.in-Ok-Some-take_listing.field-0-is c.in-Ok-Some-take_listing.ensures

pub returns-in-Err-take_listing : goal.returns-in-Err-take_listing
returns-in-Err-take_listing g c =
    let s = g.L.Ledger.state c.args.ledger.now in
    let rules = rules_of c.args.rules.now in
    let ask = ask_of c.args.item.ask.now in
    let answer = answer_of c.args.item.answer.now in
    let before = held_of c.args.item.before in
    let e = not_excused rules ask answer s before _ c.args.item.moment refl c.in-Ok-None.field-0 (g.L.Ledger.state c.take_excused.new.ledger) c.in-Ok-None.field-0-is c.in-Ok-None.ensures in
    unlisted rules ask answer s before _ c.args.item.moment refl (g.L.Ledger.state c.take_excused.new.ledger) e.1 c.in-Err-take_listing.refusal (g.L.Ledger.state c.take_listing.new.ledger)
    c.in-Err-take_listing.ensures

pub returns-in-Ok-Some-take_reborn : goal.returns-in-Ok-Some-take_reborn
returns-in-Ok-Some-take_reborn g c =
    let s = g.L.Ledger.state c.args.ledger.now in
    let rules = rules_of c.args.rules.now in
    let ask = ask_of c.args.item.ask.now in
    let answer = answer_of c.args.item.answer.now in
    let before = held_of c.args.item.before in
    let e = not_excused rules ask answer s before _ c.args.item.moment refl c.in-Ok-None.field-0 (g.L.Ledger.state c.take_excused.new.ledger) c.in-Ok-None.field-0-is c.in-Ok-None.ensures in
    let l = not_listing rules ask answer s before _ c.args.item.moment refl (g.L.Ledger.state c.take_excused.new.ledger) e.1 c.in-Ok-None-take_listing.field-0 (g.L.Ledger.state c.take_listing.new.ledger)
    c.in-Ok-None-take_listing.field-0-is c.in-Ok-None-take_listing.ensures in
    by_reborn rules ask answer s before _ c.args.item.moment refl (g.L.Ledger.state c.take_listing.new.ledger) l.1 c.in-Ok-Some-take_reborn.field-0 c.in-Ok-Some-take_reborn.after
    (g.L.Ledger.state c.take_reborn.new.ledger) c.in-Ok-Some-take_reborn.field-0-is c.in-Ok-Some-take_reborn.ensures

pub returns-in-Err-take_reborn : goal.returns-in-Err-take_reborn
returns-in-Err-take_reborn g c =
    let s = g.L.Ledger.state c.args.ledger.now in
    let rules = rules_of c.args.rules.now in
    let ask = ask_of c.args.item.ask.now in
    let answer = answer_of c.args.item.answer.now in
    let before = held_of c.args.item.before in
    let e = not_excused rules ask answer s before _ c.args.item.moment refl c.in-Ok-None.field-0 (g.L.Ledger.state c.take_excused.new.ledger) c.in-Ok-None.field-0-is c.in-Ok-None.ensures in
    let l = not_listing rules ask answer s before _ c.args.item.moment refl (g.L.Ledger.state c.take_excused.new.ledger) e.1 c.in-Ok-None-take_listing.field-0 (g.L.Ledger.state c.take_listing.new.ledger)
    c.in-Ok-None-take_listing.field-0-is c.in-Ok-None-take_listing.ensures in
    unborn rules ask answer s before _ c.args.item.moment refl (g.L.Ledger.state c.take_listing.new.ledger) l.1 c.in-Err-take_reborn.refusal (g.L.Ledger.state c.take_reborn.new.ledger)
    c.in-Err-take_reborn.ensures

pub take_as_ever-requires-clause-plain : goal.take_as_ever-requires-clause-plain
take_as_ever-requires-clause-plain g c =
    let s = g.L.Ledger.state c.args.ledger.now in
    let rules = rules_of c.args.rules.now in
    let ask = ask_of c.args.item.ask.now in
    let answer = answer_of c.args.item.answer.now in
    let before = held_of c.args.item.before in
    let e = not_excused rules ask answer s before _ c.args.item.moment refl c.in-Ok-None.field-0 (g.L.Ledger.state c.take_excused.new.ledger) c.in-Ok-None.field-0-is c.in-Ok-None.ensures in
    let l = not_listing rules ask answer s before _ c.args.item.moment refl (g.L.Ledger.state c.take_excused.new.ledger) e.1 c.in-Ok-None-take_listing.field-0 (g.L.Ledger.state c.take_listing.new.ledger)
    c.in-Ok-None-take_listing.field-0-is c.in-Ok-None-take_listing.ensures in
    let r = not_reborn rules ask answer s before _ c.args.item.moment refl (g.L.Ledger.state c.take_listing.new.ledger) l.1 c.in-Ok-None-take_reborn.field-0 (g.L.Ledger.state c.take_reborn.new.ledger)
    c.in-Ok-None-take_reborn.field-0-is c.in-Ok-None-take_reborn.ensures in
    plain_there rules ask answer s before _ c.args.item.moment refl (g.L.Ledger.state c.take_reborn.new.ledger) r.1 e.0 l.0 r.0

pub returns-in-Ok-None-take_reborn : goal.returns-in-Ok-None-take_reborn
returns-in-Ok-None-take_reborn g c =
    let s = g.L.Ledger.state c.args.ledger.now in
    let rules = rules_of c.args.rules.now in
    let ask = ask_of c.args.item.ask.now in
    let answer = answer_of c.args.item.answer.now in
    let before = held_of c.args.item.before in
    let e = not_excused rules ask answer s before _ c.args.item.moment refl c.in-Ok-None.field-0 (g.L.Ledger.state c.take_excused.new.ledger) c.in-Ok-None.field-0-is c.in-Ok-None.ensures in
    let l = not_listing rules ask answer s before _ c.args.item.moment refl (g.L.Ledger.state c.take_excused.new.ledger) e.1 c.in-Ok-None-take_listing.field-0 (g.L.Ledger.state c.take_listing.new.ledger)
    c.in-Ok-None-take_listing.field-0-is c.in-Ok-None-take_listing.ensures in
    let r = not_reborn rules ask answer s before _ c.args.item.moment refl (g.L.Ledger.state c.take_listing.new.ledger) l.1 c.in-Ok-None-take_reborn.field-0 (g.L.Ledger.state c.take_reborn.new.ledger)
    c.in-Ok-None-take_reborn.field-0-is c.in-Ok-None-take_reborn.ensures in
    by_plain rules ask answer s before _ c.args.item.moment refl (g.L.Ledger.state c.take_reborn.new.ledger) r.1 e.0 l.0 r.0 c.take_as_ever.result (g.L.Ledger.state c.take_as_ever.new.ledger)
    c.take_as_ever.ensures
