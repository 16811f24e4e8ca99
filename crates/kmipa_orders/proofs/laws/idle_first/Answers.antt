use Rattle.kmipa_orders.proofs.IdleLemmas.{idle_dead}
use Rattle.kmipa_orders.proofs.PermutationLemmas.{once_pairs}
use Rattle.kmipa_orders.proofs.laws.idle_first.Goals as goal

pub returns : goal.returns
returns c = λ declared calls taken p n m k once nexts known explains sound idle. idle_dead declared calls (once_pairs calls once) taken nexts p n m k known explains sound idle
