use Rattle.std.proofs.Common.{◌∙◌, ap, map, sym}
use Rattle.kmipa_msgs.specs.Messages.{lent}
use Rattle.kmipa_aside.specs.Becoming.{stand_in}
use Rattle.kmipa_aside.proofs.RepeatLemmas.{pushed_none, pushed_one}
use Rattle.kmipa_aside.proofs.lists.push_judged.Goals as goal

pub returns-then-is_aside : goal.returns-then-is_aside
returns-then-is_aside g c =
    pushed_none (stand_in (g.L.Ledger.state c.args.ledger.now).now) (map lent c.args.judged.now.items) c.args.id.now (sym c.is_aside.ensures ∙ c.if-is_aside.true)

pub returns : goal.returns
returns g c =
    ap (map lent) c.in_ok-push.ensures.items
    ∙ pushed_one (stand_in (g.L.Ledger.state c.args.ledger.now).now) c.args.judged.now.items c.args.id (sym c.is_aside.ensures ∙ c.if-is_aside.false)
