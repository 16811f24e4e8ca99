use Rattle.std.proofs.Common.{refl, arith}
use Rattle.kmipa_store.specs.Ledger.{held}
use Rattle.kmipa_check.proofs.KeptLemmas.{opens_all, opens_more}
use Rattle.kmipa_check.proofs.kept.count_own.Goals as goal

pub places-preserved : goal.places-preserved
places-preserved g c = record {
  within = omega (arith, c.places-test.true);
  opens = opens_more (g.L.Ledger.state c.args.ledger.now).now c.requires c.places.place c.places.next c.in-Some.more (held c.at.result.now) c.at.result.now.life.material c.at.ensures c.places.invariant.opens refl c.in-Some.ensures;
}

pub returns : goal.returns
returns g c = opens_all (g.L.Ledger.state c.args.ledger.now).now c.places.place c.places.next (omega (arith, c.places-test.false)) c.places.invariant.opens
