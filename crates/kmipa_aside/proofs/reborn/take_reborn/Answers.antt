use Rattle.std.proofs.Common.{rules, ◌∙◌, refl, subst, sym, ℤ}
use mir.Syntax.{w64}
use mir.Val.{SFits}
use Rattle.std.proofs.lemmas.Int.{to_z-of_z}
use Rattle.kmipa_msgs.specs.Messages.{answer_of, ask_of, rules_of}
use Rattle.kmipa_ops.specs.Explains.{AreBytes}
use Rattle.kmipa_passed.specs.Leaving.{held_of, holds}
use Rattle.kmipa_aside.specs.Becoming.{stand_in}
use Rattle.kmipa_aside.specs.Births.{birth_of}
use Rattle.kmipa_aside.specs.Explains.{Took}
use Rattle.kmipa_aside.specs.Reborn.{DoesReborn}
use Rattle.kmipa_aside.specs.Taking.{Tells}
use Rattle.kmipa_aside.proofs.RebornLemmas.{born_is, ever_is, grave_found, id_found, reborn_refused, reborn_took}
use Rattle.kmipa_aside.proofs.reborn.take_reborn.Goals as goal

pub returns-in-Some-why_not_born : goal.returns-in-Some-why_not_born
returns-in-Some-why_not_born g c =
    let s = g.L.Ledger.state c.args.ledger.now in
    let rules = rules_of c.args.rules.now in
    let ask = ask_of c.args.item.ask.now in
    let answer = answer_of c.args.item.answer.now in
    let before = held_of c.args.item.before in
    let b = birth_of c.in-Some.birth in
    let born = born_is answer ask c.birth.result c.in-Some.birth c.birth.ensures c.in-Some.is in
    let ever = ever_is rules s.now before ask answer c.case_of-case.result c.is_as_ever.result c.case_of-case.ensures c.is_as_ever.ensures c.if-not-is_as_ever.false in
    let body = grave_found (stand_in s.now) ask answer b c.in-Some-grave.place born (sym c.grave.ensures.place ∙ c.in-Some-grave.is) in
    reborn_refused rules c.args.item.moment ask answer s before b c.in-Some-grave.place c.requires.sound born ever body c.in-Some-why_not_born.why (sym c.why_not_born.ensures ∙ c.in-Some-why_not_born.is)

pub bear-requires-clause-same : goal.bear-requires-clause-same
bear-requires-clause-same g c =
    let s = g.L.Ledger.state c.args.ledger.now in
    id_found s.now c.in-Some.birth.answered.id.now c.in-Some-grave.place (sym c.grave.ensures.place ∙ c.in-Some-grave.is)

pub returns-in-Ok-take_in : goal.returns-in-Ok-take_in
returns-in-Ok-take_in g c =
    let fits : SFits w64 c.args.item.moment = search rules in
    let s = g.L.Ledger.state c.args.ledger.now in
    let u = g.L.Ledger.state c.bear.new.ledger in
    let v = g.L.Ledger.state c.take_in.new.ledger in
    let rules = rules_of c.args.rules.now in
    let ask = ask_of c.args.item.ask.now in
    let answer = answer_of c.args.item.answer.now in
    let before = held_of c.args.item.before in
    let b = birth_of c.in-Some.birth in
    let born = born_is answer ask c.birth.result c.in-Some.birth c.birth.ensures c.in-Some.is in
    let ever = ever_is rules s.now before ask answer c.case_of-case.result c.is_as_ever.result c.case_of-case.ensures c.is_as_ever.ensures c.if-not-is_as_ever.false in
    let body = grave_found (stand_in s.now) ask answer b c.in-Some-grave.place born (sym c.grave.ensures.place ∙ c.in-Some-grave.is) in
    let are = subst AreBytes c.material.ensures c.brings_bytes.ensures in
    subst (λ (z : ℤ). Took (DoesReborn rules z ask answer) (Tells ask answer) s before v (holds b.answered.id)) (to_z-of_z w64 c.args.item.moment fits)
    (reborn_took rules _ ask answer s before b c.in-Some-grave.place c.requires.sound born ever body c.requires.readable are (sym c.why_not_born.ensures ∙ c.in_default-why_not_born.is) (holds b.answered.id) u v
    refl c.in-Ok-bear.ensures c.in-Ok-take_in.ensures)
