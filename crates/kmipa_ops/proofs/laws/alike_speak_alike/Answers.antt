use Rattle.kmipa_ops.proofs.AlikeLemmas.{alike_speak_alike}
use Rattle.kmipa_ops.proofs.laws.alike_speak_alike.Goals as goal

pub returns : goal.returns
returns c = alike_speak_alike
