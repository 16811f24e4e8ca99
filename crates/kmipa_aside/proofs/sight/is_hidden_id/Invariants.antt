use Rattle.std.proofs.Common.{◌≡◌, ◌∷◌, [], drop, map}
use Rattle.std.specs.List.{list_any}
use Rattle.kmipa_ops.specs.Locate.{is_listed}
use Rattle.kmipa_aside.specs.Sights.{OwnedOf, hidden_from, owned_of}
use Rattle.kmipa_aside.proofs.sight.is_hidden_id.Given as goal

abbrev pub invariant-loop-owned : goal.invariant-loop-owned
invariant-loop-owned l =
    list_any (λ (o : OwnedOf). is_listed (hidden_from l.sight.me.now (o ∷ [])) l.id) (map owned_of l.sight.owners.now)
    ≡ list_any (λ (o : OwnedOf). is_listed (hidden_from l.sight.me.now (o ∷ [])) l.id) (drop l.owned-index (map owned_of l.sight.owners.now))
