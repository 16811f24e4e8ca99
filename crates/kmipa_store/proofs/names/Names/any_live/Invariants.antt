use Rattle.std.proofs.Common.{length}
use Rattle.kmipa_store.proofs.NameLemmas.{Seeks, bears_now}
use Rattle.kmipa_store.proofs.names.Names.any_live.Given as goal

abbrev pub invariant-loop-one : goal.invariant-loop-one
invariant-loop-one l = Seeks (bears_now l.objects l.value l.kind) l.hash l.left

abbrev pub decreases-loop-one : goal.decreases-loop-one
decreases-loop-one l = length l.left
