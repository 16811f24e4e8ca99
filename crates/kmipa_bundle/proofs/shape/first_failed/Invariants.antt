use Rattle.kmipa_batch.proofs.ShapeLemmas.{NoneBelow}
use Rattle.kmipa_bundle.specs.Shapes.{answers_as}
use Rattle.kmipa_bundle.proofs.shape.first_failed.Given as goal

abbrev pub invariant-loop-place : goal.invariant-loop-place
invariant-loop-place l = NoneBelow (answers_as l.outcomes) l.place
