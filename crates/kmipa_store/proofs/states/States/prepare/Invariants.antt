-- proofs/states/States/prepare/Invariants.antt
use Rattle.kmipa_store.proofs.FeatureLemmas.{KnowsTo}
use Rattle.kmipa_store.proofs.states.States.prepare.Given as goal

abbrev pub invariant-loop-place : goal.invariant-loop-place
invariant-loop-place l = KnowsTo l.features l.fn.self l.place
