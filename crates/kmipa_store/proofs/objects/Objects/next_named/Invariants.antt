use Rattle.std.proofs.Common.{◌≡◌}
use Rattle.kmipa_store.specs.Queries.{next_named}
use Rattle.kmipa_store.proofs.objects.Objects.next_named.Given as goal

abbrev pub invariant-loop-place : goal.invariant-loop-place
invariant-loop-place l = next_named l.value l.kind l.from l.self ≡ next_named l.value l.kind l.place l.self
