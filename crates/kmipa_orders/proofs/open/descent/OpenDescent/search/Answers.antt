use Rattle.std.proofs.Common.{◌∙◌, arith}
use Rattle.kmipa_orders.proofs.open.descent.OpenDescent.search.Goals as goal

pub step-requires-clause-room : goal.step-requires-clause-room
step-requires-clause-room g c = let few = c.tries.invariant.few in let differ = c.if-self-budget.false in let fits = c.ranges.budget.fits in omega (arith, few, differ, fits)

pub tries-smaller-in_ok-step-in-Some : goal.tries-smaller-in_ok-step-in-Some
tries-smaller-in_ok-step-in-Some g c =
    let few = c.tries.invariant.few in
    let differ = c.if-self-budget.false in
    omega (arith, few, differ, c.in_ok-step-in-Some.ensures.moves.1, c.in_ok-step-in-Some.ensures.moves.2)

pub tries-preserved-in_ok-step-in-Some : goal.tries-preserved-in_ok-step-in-Some
tries-preserved-in_ok-step-in-Some g c = record {
  descends = c.in_ok-step-in-Some.ensures.moves.0;
  few = let few = c.tries.invariant.few in let differ = c.if-self-budget.false in omega (arith, few, differ, c.in_ok-step-in-Some.ensures.moves.1);
  watch = c.in_ok-step-in-Some.ensures.watch ∙ c.tries.invariant.watch;
}
