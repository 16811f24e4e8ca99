use Rattle.std.proofs.Common.{refl}
use Rattle.std.proofs.lemmas.Slice.Zip.{either_empty_from_Zip}
use Rattle.std.specs.Slice.Iter.{iter_rest}
use Rattle.std.specs.Iterator.Adapters.{zip_first, zip_second}
use Rattle.kmipa_batch.proofs.ReadableLemmas.{hangs_last}
use Rattle.kmipa_batch.proofs.readable.are_readable.Goals as goal

pub returns : goal.returns
returns c = (
  λ t. hangs_last c.args.asks.now (iter_rest (zip_first c.loop-ask.ask-iterator)) c.args.answers.now (iter_rest (zip_second c.loop-ask.ask-iterator)) c.loop-ask.invariant
      (either_empty_from_Zip c.loop-ask.ask-iterator c.next.new.self c.next.result c.in-None.is c.next.ensures.steps),
  λ h. refl,
)
