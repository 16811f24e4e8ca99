use Rattle.kmipa_store.proofs.NameLemmas.{Rests, Seeks}
use Rattle.kmipa_store.proofs.LiveNameLemmas.{live_from}
use Rattle.kmipa_store.proofs.names.Names.next_live.Given as goal

abbrev pub invariant-loop-one : goal.invariant-loop-one
invariant-loop-one l = record {
  seeks : Seeks (live_from l.objects l.from l.value l.kind) l.hash l.one-iterator;
  rests : Rests l.hash l.from l.one-iterator;
}
