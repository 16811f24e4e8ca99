use Rattle.std.proofs.Common.{map}
use Rattle.kmipa_msgs.specs.Messages.{lent}
use Rattle.kmipa_aside.specs.Sights.{owned_of}
use Rattle.kmipa_aside.proofs.SettingLemmas.{mapped_at}
use Rattle.kmipa_aside.proofs.SightLemmas.{hidden_more}
use Rattle.kmipa_aside.proofs.sight.hidden_ids.Goals as goal

pub loop-owned-preserved : goal.loop-owned-preserved
loop-owned-preserved c =
    hidden_more c.args.sight.me.now (map owned_of c.args.sight.owners.now) c.loop-owned.owned-index _
    (mapped_at owned_of c.args.sight.owners.now c.loop-owned.owned-index _ c.loop-owned-test.true) (map lent c.loop-owned.ids.items) (map lent c.push_hidden.new.ids.items) c.in_ok-push_hidden.ensures
    c.loop-owned.invariant
