-- proofs/present/lasting_of/Invariants.antt
use Rattle.kmipa_store.proofs.FeatureLemmas.{LastsTo}
use Rattle.kmipa_store.proofs.present.lasting_of.Given as goal

abbrev pub invariant-loop-place : goal.invariant-loop-place
invariant-loop-place l = LastsTo l.features l.objects l.place
