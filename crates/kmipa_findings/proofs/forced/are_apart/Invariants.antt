use Rattle.std.proofs.Common.{◌≤◌, map, length}
use Rattle.kmipa_turns.specs.Steps.{step_of}
use Rattle.kmipa_findings.specs.Choices.{AreApart}
use Rattle.kmipa_findings.proofs.ChoiceLemmas.{TwoFrom}
use Rattle.kmipa_findings.proofs.forced.are_apart.Given as goal

abbrev pub invariant-steps : goal.invariant-steps
invariant-steps l = record {
  within : l.place ≤ length l.steps;
  two : TwoFrom (AreApart l.settings.tolerance) (map step_of l.steps) l.place;
}

abbrev pub decreases-steps : goal.decreases-steps
decreases-steps l = l.place
