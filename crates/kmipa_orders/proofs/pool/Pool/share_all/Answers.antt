use Rattle.std.proofs.Common.{◌∙◌, List, [], ◌∷◌, length, refl, ap, subst, arith}
use Rattle.std.proofs.lemmas.List.{length-append, length-map, take_all}
use Rattle.kmipa_store.specs.Ledger.{held}
use Rattle.kmipa_store.proofs.SoundLemmas.{number_below}
use Rattle.kmipa_orders.proofs.StillLemmas.{copied, none_alike}
use Rattle.kmipa_orders.specs.Ends.{AreAlike, stills_shared}
use Rattle.kmipa_orders.specs.Stills.{StillOf, still, stills}
use Rattle.kmipa_orders.proofs.pool.Pool.share_all.Goals as goal

pub share-requires : goal.share-requires
share-requires g c = λ secret is. number_below (g.L.Ledger.state c.args.ledger.now).now c.objects.place (held c.at-object.result.now) secret c.requires c.at-object.ensures is

pub objects-init : goal.objects-init
objects-init g c = record {
  within = omega arith;
  long = ap length c.in_ok-objects.ensures.items;
  copied = none_alike c.args.front (stills_shared c.in_ok-objects.objects.items) [] (ap stills_shared c.in_ok-objects.ensures.items) refl;
}

pub objects-preserved : goal.objects-preserved
objects-preserved g c = record {
  within = omega (arith, c.objects-test.true, c.len.ensures);
  long = ap length c.in_ok-push.ensures.items ∙ length-append c.objects.objects.items (c.in_ok-share.field-0 ∷ []) ∙ (let l = c.objects.invariant.long in omega (arith, l));
  copied =
      copied c.args.front c.objects.objects.items c.push.new.self.items (g.L.Ledger.state c.args.ledger.now).now c.objects.place (held c.at-object.result.now) c.in_ok-share.field-0 c.at-object.ensures
      c.objects.invariant.long c.objects.invariant.copied c.in_ok-share.ensures c.in_ok-push.ensures.items;
}

pub returns : goal.returns
returns g c =
    let m = (g.L.Ledger.state c.args.ledger.now).now in
    let P : List StillOf → Type 0 = λ ys. AreAlike c.args.front (stills_shared c.objects.objects.items) ys in
    subst P (take_all c.objects.place (stills m) (omega (arith, c.objects-test.false, c.len.ensures, length-map m.objects (still m.secrets)))) c.objects.invariant.copied
