use Rattle.std.proofs.Common.{◌∙◌, sym}
use Rattle.kmipa_msgs.specs.Messages.{answer_of, ask_of, rules_of}
use Rattle.kmipa_passed.specs.Leaving.{held_of}
use Rattle.kmipa_aside.specs.Sights.{sight_of}
use Rattle.kmipa_aside.proofs.InSightLemmas.{taken_alone, taken_shared}
use Rattle.kmipa_aside.proofs.in_sight.take_in_sight.Goals as goal

pub returns-then-not-may_share : goal.returns-then-not-may_share
returns-then-not-may_share g c =
    taken_alone (sight_of c.args.sight) c.args.item.moment (ask_of c.args.item.ask.now) (answer_of c.args.item.answer.now) (g.L.Ledger.state c.args.ledger.now) (held_of c.args.item.before)
    (sym c.may_share.ensures ∙ c.if-not-may_share.true) c.take_permitted.result (g.L.Ledger.state c.take_permitted.new.ledger) c.take_permitted.ensures

pub returns : goal.returns
returns g c =
    taken_shared (sight_of c.args.sight) c.args.item.moment (ask_of c.args.item.ask.now) (answer_of c.args.item.answer.now) (g.L.Ledger.state c.args.ledger.now) (held_of c.args.item.before)
    (sym c.may_share.ensures ∙ c.if-not-may_share.false) (rules_of c.in-Ok.rules) c.in-Ok.ensures c.take_permitted-2.result (g.L.Ledger.state c.take_permitted-2.new.ledger) c.take_permitted-2.ensures
