use Rattle.std.proofs.Common.{map}
use Rattle.kmipa_msgs.specs.Messages.{lent}
use Rattle.kmipa_aside.specs.Becoming.{stand_in}
use Rattle.kmipa_aside.proofs.RepeatLemmas.{judged_more}
use Rattle.kmipa_aside.proofs.SettingLemmas.{mapped_at}
use Rattle.kmipa_aside.proofs.lists.judged_of.Goals as goal

pub loop-id-preserved : goal.loop-id-preserved
loop-id-preserved g c =
    let ids = map lent c.args.ids.now in
    let s = stand_in (g.L.Ledger.state c.args.ledger.now).now in
    judged_more s ids c.loop-id.id-index _ (mapped_at lent c.args.ids.now c.loop-id.id-index _ c.loop-id-test.true) (map lent c.loop-id.judged.items) (map lent c.push_judged.new.judged.items)
    c.in_ok-push_judged.ensures c.loop-id.invariant
