use Rattle.std.proofs.Common.{◌-◌, map, refl, arith}
use Rattle.std.proofs.lemmas.List.{length-map}
use Rattle.kmipa_check.proofs.PlaceLemmas.{mapped_at}
use Rattle.kmipa_turns.specs.Steps.{step_of}
use Rattle.kmipa_findings.specs.Choices.{AreApart}
use Rattle.kmipa_findings.proofs.ChoiceLemmas.{all_apart, two_more, two_past}
use Rattle.kmipa_findings.proofs.forced.are_apart.Goals as goal

pub steps-init : goal.steps-init
steps-init c = record {
  within = omega arith;
  two = two_past (AreApart c.args.settings.now.tolerance) (map step_of c.args.steps.now) _ (omega (arith, length-map c.args.steps.now step_of));
}

pub steps-preserved : goal.steps-preserved
steps-preserved c =
    let s = c.in-Some.step.now in
    let some = c.steps-test.true in
    let here = mapped_at step_of c.args.steps.now (c.steps.place - 1) s (omega (arith, some, c.steps.invariant.within)) c.in-Some.ensures.lookup.1 in
    record {
      within = omega (arith, c.steps.invariant.within);
      two = two_more (AreApart c.args.settings.now.tolerance) (map step_of c.args.steps.now) c.steps.place (step_of s) some here (c.if-not-is_apart_behind.ensures refl) c.steps.invariant.two;
    }

pub returns : goal.returns
returns c = λ told. all_apart c.args.settings.now.tolerance (map step_of c.args.steps.now) c.steps.place (omega (arith, c.steps-test.false)) c.steps.invariant.two
