use Rattle.std.proofs.Common.{◌≡◌, ◌≢◌, ◌≤◌, ◌∷◌, length, take, ◌-◌}
use Rattle.std.specs.Prelude.{AllPairs}
use Rattle.kmipa_orders.specs.Ranks.{AreNoted}
use Rattle.kmipa_orders.proofs.ranks.Ranks.of.Given as goal

abbrev pub invariant-ranks : goal.invariant-ranks
invariant-ranks l = record {
  within : l.r ≤ length l.places;
  order : l.order.items ≡ 0 ∷ take l.r l.places;
  long : length l.rank.items ≡ length l.places;
  noted : AllPairs (λ x y. x ≢ y) l.places → AreNoted l.places l.r l.rank.items;
}

abbrev pub decreases-ranks : goal.decreases-ranks
decreases-ranks l = length l.places - l.r
