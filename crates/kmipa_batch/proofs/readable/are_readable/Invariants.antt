use Rattle.std.specs.Slice.Iter.{iter_rest}
use Rattle.std.specs.Iterator.Adapters.{zip_first, zip_second}
use Rattle.kmipa_batch.proofs.ReadableLemmas.{Hangs}
use Rattle.kmipa_batch.proofs.readable.are_readable.Given as goal

abbrev pub invariant-loop-ask : goal.invariant-loop-ask
invariant-loop-ask l = Hangs l.asks (iter_rest (zip_first l.ask-iterator)) l.answers (iter_rest (zip_second l.ask-iterator))
