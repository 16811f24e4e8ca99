use Rattle.std.proofs.Common.{refl, arith}
use Rattle.kmipa_findings.proofs.EachLemmas.{IsUnaside, each_more, each_past, none_aside}
use Rattle.kmipa_findings.proofs.seeking.set_nothing_aside.Goals as goal

pub turns-init : goal.turns-init
turns-init c = record {
  within = omega arith;
  none = each_past IsUnaside c.args.turns.now _ (omega arith);
}

pub turns-preserved : goal.turns-preserved
turns-preserved c = record {
  within = omega (arith, c.turns.invariant.within);
  none = each_more IsUnaside c.args.turns.now c.turns.place c.in-Some.turn.now c.turns-test.true c.turns.invariant.within c.in-Some.ensures.lookup.1
      (c.if-not-sets_nothing_aside.ensures refl) c.turns.invariant.none;
}

pub returns : goal.returns
returns c = λ told. none_aside c.args.turns.now c.turns.place (omega (arith, c.turns-test.false)) c.turns.invariant.none
