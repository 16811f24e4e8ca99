use Rattle.kmipa_store.specs.Names.{KeepsOthers}
use Rattle.kmipa_store.proofs.names.Names.forget.Given as goal

abbrev pub invariant-loop-slot : goal.invariant-loop-slot
invariant-loop-slot l = KeepsOthers l.fn.self l.place l.self
