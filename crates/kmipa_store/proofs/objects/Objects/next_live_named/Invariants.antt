use Rattle.std.proofs.Common.{◌≡◌}
use Rattle.kmipa_store.specs.Queries.{next_live_named}
use Rattle.kmipa_store.proofs.objects.Objects.next_live_named.Given as goal

abbrev pub invariant-loop-next : goal.invariant-loop-next
invariant-loop-next l = next_live_named l.value l.kind l.from l.self ≡ next_live_named l.value l.kind l.next l.self
