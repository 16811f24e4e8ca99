use Rattle.kmipa_store.proofs.SoughtLemmas.{Touched}
use Rattle.kmipa_store.proofs.sought.Sought.touch.Given as goal

abbrev pub invariant-loop-number : goal.invariant-loop-number
invariant-loop-number l = Touched l.fn.self l.place l.number l.self
