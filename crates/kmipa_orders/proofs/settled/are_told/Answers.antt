use Rattle.std.proofs.Common.{◌≡◌, ◌-◌, true, arith, rules}
use Rattle.kmipa_store.specs.Ledger.{held}
use Rattle.kmipa_store.proofs.SoundLemmas.{number_below}
use Rattle.kmipa_check.proofs.PlaceLemmas.{at_within}
use Rattle.kmipa_orders.proofs.LoneLemmas.{told_on}
use Rattle.kmipa_orders.proofs.settled.are_told.Goals as goal

pub objects-init : goal.objects-init
objects-init g c =
    let m = (g.L.Ledger.state c.args.ledger.now).now in
    record {
      within = omega (arith, c.len-place.ensures);
      told = λ k h past at. absurd (let w = at_within m.objects k h at in omega (arith, past, w, c.len-place.ensures));
    }

pub is_told-requires : goal.is_told-requires
is_told-requires g c = λ secret is.
    number_below (g.L.Ledger.state c.args.ledger.now).now (c.objects.place - 1) (held c.at-object.result.now) secret c.requires c.at-object.ensures is

pub objects-preserved : goal.objects-preserved
objects-preserved g c =
    let m = (g.L.Ledger.state c.args.ledger.now).now in
    let told : c.is_told.result ≡ true = search rules in
    record {
      within = omega (arith, c.objects.invariant.within);
      told = told_on m.secrets m.objects c.objects.place (held c.at-object.result.now) (omega (arith, c.objects-test.true)) c.at-object.ensures (c.is_told.ensures told) c.objects.invariant.told;
    }

pub returns : goal.returns
returns g c = λ t place h at. c.objects.invariant.told place h (omega (arith, c.objects-test.false)) at
