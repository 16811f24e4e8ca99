use Rattle.std.proofs.Common.{◌-◌, map, refl, arith}
use Rattle.std.proofs.lemmas.List.{length-map}
use Rattle.kmipa_check.proofs.PlaceLemmas.{mapped_at}
use Rattle.kmipa_turns.specs.Steps.{step_of}
use Rattle.kmipa_findings.proofs.ChoiceLemmas.{IsNoLater, all_rising, begin_more, begin_past, rising_more, two_past}
use Rattle.kmipa_findings.proofs.forced.are_rising.Goals as goal

pub steps-init : goal.steps-init
steps-init c =
    let steps = map step_of c.args.steps.now in
    record {
      within = omega arith;
      behind = begin_past steps _ _ (omega (arith, length-map c.args.steps.now step_of));
      two = two_past IsNoLater steps _ (omega (arith, length-map c.args.steps.now step_of));
    }

pub steps-preserved : goal.steps-preserved
steps-preserved c =
    let steps = map step_of c.args.steps.now in
    let s = c.in-Some.step.now in
    let some = c.steps-test.true in
    let here = mapped_at step_of c.args.steps.now (c.steps.place - 1) s (omega (arith, some, c.steps.invariant.within)) c.in-Some.ensures.lookup.1 in
    let low = c.if-not-begins_by.ensures refl in
    record {
      within = omega (arith, c.steps.invariant.within);
      behind = begin_more steps c.steps.place c.steps.least (step_of s) some here low c.steps.invariant.behind;
      two = rising_more steps c.steps.place c.steps.least (step_of s) some here low c.steps.invariant.behind c.steps.invariant.two;
    }

pub returns : goal.returns
returns c = λ told. all_rising (map step_of c.args.steps.now) c.steps.place (omega (arith, c.steps-test.false)) c.steps.invariant.two
