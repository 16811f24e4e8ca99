use Rattle.std.proofs.Common.{◌≡◌, ◌-◌, true, sym, ap, subst, arith, rules}
use Rattle.std.proofs.lemmas.List.{length-map}
use Rattle.kmipa_orders.specs.Ends.{StandsAmong, still_of}
use Rattle.kmipa_orders.specs.Stills.{StillOf, still, stills}
use Rattle.kmipa_orders.proofs.StillLemmas.{all_among, among_on}
use Rattle.kmipa_orders.proofs.stills.stand_so.Goals as goal

pub objects-preserved : goal.objects-preserved
objects-preserved g c =
    let m = (g.L.Ledger.state c.args.ledger.now).now in
    let among : c.stands_among.result ≡ true = search rules in
    let P : StillOf → Type 0 = λ z. StandsAmong c.args.front (c.objects.place - 1) z (stills m) in
    record {
      within = omega (arith, c.objects.invariant.within);
      stand =
          among_on c.args.front c.args.objects.now (stills m) c.objects.place c.index-objects-place.result (omega (arith, c.objects-test.true)) c.objects.invariant.within c.index-objects-place.is
          (subst P (ap still_of (sym (sym c.deref.ensures))) (c.stands_among.ensures among)) c.objects.invariant.stand;
    }

pub returns : goal.returns
returns g c = λ t.
    let m = (g.L.Ledger.state c.args.ledger.now).now in
    all_among c.args.front c.args.objects.now (stills m) (omega (arith, c.if-objects-len.false, c.len.ensures, length-map m.objects (still m.secrets)))
    (λ k s z at. c.objects.invariant.stand k s (omega (arith, c.objects-test.false)) at)
