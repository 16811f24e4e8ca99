use Rattle.std.proofs.Common.{map, refl, arith}
use Rattle.std.proofs.lemmas.List.{length-map}
use Rattle.kmipa_check.proofs.PlaceLemmas.{mapped_at}
use Rattle.kmipa_turns.specs.Steps.{step_of}
use Rattle.kmipa_findings.proofs.ChoiceLemmas.{apart_all, apart_from, apart_more, apart_none}
use Rattle.kmipa_findings.proofs.forced.is_apart_behind.Goals as goal

pub steps-init : goal.steps-init
steps-init c = record {
  behind = omega arith;
  ahead = apart_none c.args.settings.now.tolerance (map step_of c.args.steps.now) c.args.place _ (step_of c.args.step.now) (omega arith);
}

pub steps-preserved : goal.steps-preserved
steps-preserved c =
    let steps = map step_of c.args.steps.now in
    let o = c.in-Some.other.now in
    let here = mapped_at step_of c.args.steps.now c.steps.later o (omega (arith, c.steps-test.true)) c.in-Some.ensures.lookup.1 in
    record {
      behind = omega (arith, c.steps.invariant.behind);
      ahead = apart_more c.args.settings.now.tolerance steps c.args.place c.steps.later (step_of c.args.step.now) (step_of o) here (c.if-not-are_far_by.ensures refl) c.steps.invariant.ahead;
    }

pub returns-then-is_before : goal.returns-then-is_before
returns-then-is_before c =
    let steps = map step_of c.args.steps.now in
    let o = c.in-Some.other.now in
    let here = mapped_at step_of c.args.steps.now c.steps.later o (omega (arith, c.steps-test.true)) c.in-Some.ensures.lookup.1 in
    λ told. apart_from c.args.settings.now.tolerance steps c.args.place c.steps.later (step_of c.args.step.now) (step_of o) c.requires.rising here (c.if-is_before.ensures refl) c.steps.invariant.ahead

pub returns : goal.returns
returns c = λ told. apart_all c.args.settings.now.tolerance (map step_of c.args.steps.now) c.args.place c.steps.later (step_of c.args.step.now) (omega (arith, length-map c.args.steps.now step_of, c.steps-test.false)) c.steps.invariant.ahead
