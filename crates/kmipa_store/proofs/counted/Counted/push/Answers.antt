use Rattle.kmipa_store.specs.Ledger.{held}
use Rattle.kmipa_store.proofs.LiveNameLemmas.{knows_pushed}
use Rattle.kmipa_store.proofs.TallyLemmas.{counts_more}
use Rattle.kmipa_store.proofs.counted.Counted.push.Goals as goal

pub invariant_of-self-2 : goal.invariant_of-self-2
invariant_of-self-2 c =
    let i = c.self.inside in (
      counts_more i.tally c.add.new.self i.objects c.push.new.self (held c.args.object) (held c.at-added.result.now) c.len-place.result
          c.self.invariant.0 c.in_ok-push.ensures c.len-place.ensures c.at-added.ensures c.add.ensures,
      knows_pushed i.live c.follow.new.live i.objects c.push.new.self (held c.args.object) (held c.at-added.result.now) c.len-place.result
          c.self.invariant.1 c.in_ok-push.ensures c.len-place.ensures c.at-added.ensures c.follow.ensures,
    )
