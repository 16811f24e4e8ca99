use Rattle.std.proofs.Common.{◌≡◌, take, map}
use Rattle.kmipa_aside.specs.Sights.{owned_of}
use Rattle.kmipa_beside.specs.Owners.{named_of, owned_as}
use Rattle.kmipa_beside.proofs.owners.owners_of.Given as goal

abbrev pub invariant-loop-one : goal.invariant-loop-one
invariant-loop-one l = map owned_of l.owners.items ≡ map owned_as (map named_of (take l.one-index l.named))
