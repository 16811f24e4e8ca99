use Rattle.std.proofs.Common.{◌≡◌, ◌++◌, drop, map}
use Rattle.kmipa_aside.specs.Sights.{owned_of}
use Rattle.kmipa_trail.specs.Owners.{disowned}
use Rattle.kmipa_trail.proofs.owners.disowned.Given as goal

abbrev pub invariant-loop-owned : goal.invariant-loop-owned
invariant-loop-owned l = map owned_of l.others.items ++ disowned l.id (drop l.owned-index (map owned_of l.owners)) ≡ disowned l.id (map owned_of l.owners)
