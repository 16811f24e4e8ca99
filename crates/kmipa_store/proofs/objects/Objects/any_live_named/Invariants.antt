use Rattle.std.proofs.Common.{◌≡◌, drop}
use Rattle.kmipa_store.specs.Queries.{any_live_named}
use Rattle.kmipa_store.proofs.objects.Objects.any_live_named.Given as goal

abbrev pub invariant-loop-place : goal.invariant-loop-place
invariant-loop-place l = any_live_named l.value l.kind l.self ≡ any_live_named l.value l.kind (drop l.place l.self)
