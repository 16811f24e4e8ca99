use Rattle.std.proofs.Common.{◌≡◌, ℤ, drop}
use Rattle.std.specs.List.{list_any}
use Rattle.kmipa_places.specs.Unread.{is_place}
use Rattle.kmipa_turns.proofs.asides.sets_aside.Given as goal

-- the whole call isn't among those so far
abbrev pub invariant-loop-aside : goal.invariant-loop-aside
invariant-loop-aside l = list_any (λ (z : ℤ). is_place z 0) l.asides ≡ list_any (λ (z : ℤ). is_place z 0) (drop l.aside-index l.asides)
