use Rattle.kmipa_ops.proofs.SayableLemmas.{fills_are_said}
use Rattle.kmipa_ops.proofs.laws.fills_are_said.Goals as goal

pub returns : goal.returns
returns c = fills_are_said
