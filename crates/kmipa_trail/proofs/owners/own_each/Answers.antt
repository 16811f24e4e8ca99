use Rattle.std.proofs.Common.{map}
use Rattle.kmipa_msgs.specs.Messages.{lent}
use Rattle.kmipa_aside.proofs.SettingLemmas.{mapped_at}
use Rattle.kmipa_aside.specs.Sights.{owned_of}
use Rattle.kmipa_trail.proofs.OwnersLemmas.{own_more}
use Rattle.kmipa_trail.proofs.owners.own_each.Goals as goal

pub loop-id-preserved : goal.loop-id-preserved
loop-id-preserved c =
    own_more c.args.me.now (map lent c.args.ids.now) c.loop-id.id-index _ (mapped_at lent c.args.ids.now c.loop-id.id-index _ c.loop-id-test.true) (map owned_of c.args.owners.now.items)
    (map owned_of c.loop-id.owners.items) (map owned_of c.own.new.owners.items) c.in_ok-own.ensures c.loop-id.invariant
