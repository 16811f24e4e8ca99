-- proofs/objects/Objects/next_with/Invariants.antt
use Rattle.std.proofs.Common.{◌≡◌}
use Rattle.kmipa_store.specs.Queries.{next_with}
use Rattle.kmipa_store.proofs.objects.Objects.next_with.Given as goal

abbrev pub invariant-loop-next : goal.invariant-loop-next
invariant-loop-next l = next_with l.feature l.t l.from l.self ≡ next_with l.feature l.t l.next l.self
