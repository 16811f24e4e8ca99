use Rattle.std.proofs.Common.{◌≡◌, drop, map, not}
use Rattle.std.specs.List.{list_any}
use Rattle.kmipa_aside.specs.Sights.{OwnedOf, is_of, owned_of}
use Rattle.kmipa_aside.proofs.sight.hides_some.Given as goal

abbrev pub invariant-loop-owned : goal.invariant-loop-owned
invariant-loop-owned l =
    list_any (λ (o : OwnedOf). not (is_of l.sight.me.now o)) (map owned_of l.sight.owners.now)
    ≡ list_any (λ (o : OwnedOf). not (is_of l.sight.me.now o)) (drop l.owned-index (map owned_of l.sight.owners.now))
