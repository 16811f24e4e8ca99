use Rattle.std.proofs.Common.{◌≡◌, map, take}
use Rattle.kmipa_orders.specs.declared.tried.Visit.{Visit}
use Rattle.kmipa_orders.proofs.order.places.Given as goal

abbrev pub invariant-visits : goal.invariant-visits
invariant-visits l = l.order.items ≡ map (λ (v : Visit). v.place) (take l.visit-index l.path)
