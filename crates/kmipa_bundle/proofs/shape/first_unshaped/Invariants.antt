use Rattle.kmipa_places.specs.Calls.{read_of}
use Rattle.kmipa_bundle.specs.Shapes.{IsShapedBelow}
use Rattle.kmipa_bundle.proofs.shape.first_unshaped.Given as goal

abbrev pub invariant-loop-place : goal.invariant-loop-place
invariant-loop-place l = IsShapedBelow (read_of l.call) l.place
