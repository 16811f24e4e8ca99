use Rattle.kmipa_findings.specs.Trying.{AreTakable}
use Rattle.kmipa_findings.proofs.calls.steps_made.Given as goal

abbrev pub invariant-places : goal.invariant-places
invariant-places l = AreTakable l.steps.items
