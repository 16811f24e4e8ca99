use Rattle.kmipa_ops.proofs.AlikeLemmas.{alike_go_alike}
use Rattle.kmipa_ops.proofs.laws.alike_go_alike.Goals as goal

pub returns : goal.returns
returns c = alike_go_alike
