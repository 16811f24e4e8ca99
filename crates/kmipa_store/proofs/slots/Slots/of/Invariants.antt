use Rattle.std.proofs.Common.{take}
use Rattle.kmipa_store.specs.Objects.{objects_of}
use Rattle.kmipa_store.specs.Slots.{AreAllNoted}
use Rattle.kmipa_store.proofs.slots.Slots.of.Given as goal

abbrev pub invariant-loop-place : goal.invariant-loop-place
invariant-loop-place l = AreAllNoted l.slots (objects_of (take l.place l.objects))
