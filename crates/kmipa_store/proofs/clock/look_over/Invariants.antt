use Rattle.kmipa_store.proofs.ClockLemmas.{Looking}
use Rattle.kmipa_store.proofs.clock.look_over.Given as goal

abbrev pub invariant-loop-one : goal.invariant-loop-one
invariant-loop-one l = Looking l.objects l.before l.t l.one-iterator l.states
