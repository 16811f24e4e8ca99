use Rattle.std.proofs.Common.{◌≡◌, take}
use Rattle.kmipa_store.proofs.objects.Objects.copy.Given as goal

abbrev pub invariant-loop-place : goal.invariant-loop-place
invariant-loop-place l = l.copy ≡ take l.place l.self
