use Rattle.std.proofs.Common.{map}
use Rattle.kmipa_attrs.specs.Filters.{filter_of}
use Rattle.kmipa_msgs.specs.Messages.{lent}
use Rattle.kmipa_store.specs.Ledger.{cards_of}
use Rattle.kmipa_aside.proofs.MissedLemmas.{missed_more}
use Rattle.kmipa_aside.proofs.SettingLemmas.{mapped_at}
use Rattle.kmipa_aside.proofs.missed.missed_of.Goals as goal

pub loop-id-preserved : goal.loop-id-preserved
loop-id-preserved g c =
    missed_more (cards_of (g.L.Ledger.state c.args.ledger.now).now.objects) _ (filter_of c.args.filter.now) (map lent c.args.listed.now) (map lent c.args.ids.now) c.loop-id.id-index _
    (mapped_at lent c.args.ids.now c.loop-id.id-index _ c.loop-id-test.true) (map lent c.loop-id.missed.items) (map lent c.push_missed.new.missed.items) c.in_ok-push_missed.ensures c.loop-id.invariant
