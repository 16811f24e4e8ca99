use Rattle.std.proofs.Common.{map}
use Rattle.kmipa_msgs.specs.Messages.{lent}
use Rattle.kmipa_aside.specs.Worlds.{set_each_aside}
use Rattle.kmipa_aside.proofs.SettingLemmas.{each_step, mapped_at}
use Rattle.kmipa_aside.proofs.setting.set_each.Goals as goal

pub loop-id-preserved : goal.loop-id-preserved
loop-id-preserved g c =
    let ids = map lent c.args.ids.now in
    each_step _ (set_each_aside _ ids) (g.L.Ledger.state c.args.ledger.now) ids (g.L.Ledger.state c.loop-id.ledger) (g.L.Ledger.state c.set_aside.new.ledger) c.loop-id.id-index _
    (mapped_at lent c.args.ids.now c.loop-id.id-index _ c.loop-id-test.true) c.loop-id.invariant c.in_ok-set_aside.ensures
