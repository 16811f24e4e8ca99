use Rattle.std.proofs.Common.{map}
use Rattle.kmipa_aside.specs.Sights.{owned_of}
use Rattle.kmipa_trail.specs.Owners.{disowned}
use Rattle.kmipa_aside.proofs.SettingLemmas.{mapped_at}
use Rattle.kmipa_trail.proofs.GatherLemmas.{gathered_more}
use Rattle.kmipa_trail.proofs.OwnersLemmas.{split_disowned}
use Rattle.kmipa_trail.proofs.owners.disowned.Goals as goal

pub loop-owned-preserved : goal.loop-owned-preserved
loop-owned-preserved c =
    let xs = map owned_of c.args.owners.now in
    gathered_more (disowned c.args.id.now) (split_disowned c.args.id.now) xs c.loop-owned.owned-index _ (mapped_at owned_of c.args.owners.now c.loop-owned.owned-index _ c.loop-owned-test.true) (map owned_of c.loop-owned.others.items)
    (map owned_of c.push_other.new.others.items) c.in_ok-push_other.ensures c.loop-owned.invariant
