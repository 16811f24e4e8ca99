use Rattle.std.proofs.Common.{◌≡◌, drop, map, bytes_eq}
use Rattle.std.specs.List.{list_any}
use Rattle.kmipa_aside.specs.Sights.{OwnedOf, owned_of}
use Rattle.kmipa_trail.proofs.owners.is_owned.Given as goal

abbrev pub invariant-loop-owned : goal.invariant-loop-owned
invariant-loop-owned l = list_any (λ (o : OwnedOf). bytes_eq l.id o.id) (map owned_of l.owners) ≡ list_any (λ (o : OwnedOf). bytes_eq l.id o.id) (drop l.owned-index (map owned_of l.owners))
