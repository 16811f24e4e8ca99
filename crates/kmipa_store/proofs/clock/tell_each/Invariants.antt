use Rattle.kmipa_store.proofs.ClockLemmas.{ToldTo}
use Rattle.kmipa_store.proofs.clock.tell_each.Given as goal

abbrev pub invariant-loop-place : goal.invariant-loop-place
invariant-loop-place l = ToldTo l.objects l.t l.place l.states
