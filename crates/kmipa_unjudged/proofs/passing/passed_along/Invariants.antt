use Rattle.std.proofs.Common.{◌≡◌, ◌++◌, map, drop}
use Rattle.kmipa_turns.specs.Steps.{step_of}
use Rattle.kmipa_unjudged.specs.Passing.{passed_along}
use Rattle.kmipa_unjudged.proofs.passing.passed_along.Given as goal

-- those so far, and those of the steps that are left, are all
abbrev pub invariant-steps : goal.invariant-steps
invariant-steps l = l.numbers.items ++ passed_along (map step_of (drop l.step-index l.steps)) ≡ passed_along (map step_of l.steps)
