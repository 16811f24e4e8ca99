use Rattle.std.proofs.Common.{take}
use Rattle.kmipa_store.specs.Tally.{Counts}
use Rattle.kmipa_store.proofs.tally.Tally.of.Given as goal

abbrev pub invariant-loop-place : goal.invariant-loop-place
invariant-loop-place l = Counts l.tally (take l.place l.objects)
