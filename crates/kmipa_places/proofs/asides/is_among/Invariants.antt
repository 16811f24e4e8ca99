use Rattle.std.proofs.Common.{◌≡◌, ℤ, drop}
use Rattle.std.specs.List.{list_any}
use Rattle.kmipa_places.specs.Unread.{is_place}
use Rattle.kmipa_places.proofs.asides.is_among.Given as goal

-- the place isn't among those so far
abbrev pub invariant-loop-aside : goal.invariant-loop-aside
invariant-loop-aside l = list_any (λ (z : ℤ). is_place z l.place) l.asides ≡ list_any (λ (z : ℤ). is_place z l.place) (drop l.aside-index l.asides)
