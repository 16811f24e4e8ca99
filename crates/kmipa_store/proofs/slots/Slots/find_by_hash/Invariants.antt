use Rattle.kmipa_store.specs.Objects.{objects_of}
use Rattle.kmipa_store.proofs.HashLemmas.{Seeks, Rises}
use Rattle.kmipa_store.proofs.slots.Slots.find_by_hash.Given as goal

abbrev pub invariant-loop-one : goal.invariant-loop-one
invariant-loop-one l = Seeks (objects_of l.objects) l.id l.hash l.one-iterator × Rises l.hash l.one-iterator
