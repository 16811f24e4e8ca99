-- proofs/features/Features/next/Invariants.antt
use Rattle.kmipa_store.proofs.FeatureLemmas.{stands_from}
use Rattle.kmipa_store.proofs.NameLemmas.{Rests, Seeks}
use Rattle.kmipa_store.proofs.features.Features.next.Given as goal

abbrev pub invariant-loop-one : goal.invariant-loop-one
invariant-loop-one l = record {
  seeks : Seeks (stands_from l.objects l.from l.feature l.t) l.code l.one-iterator;
  rests : Rests l.code l.from l.one-iterator;
}
