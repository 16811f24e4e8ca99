use Rattle.std.proofs.Common.{◌≡◌, ◌++◌, drop, map}
use Rattle.kmipa_msgs.specs.Messages.{lent}
use Rattle.kmipa_places.specs.Places.{place_of}
use Rattle.kmipa_trail.specs.Owners.{births_at}
use Rattle.kmipa_trail.proofs.owners.births_at.Given as goal

abbrev pub invariant-loop-place : goal.invariant-loop-place
invariant-loop-place l = map lent l.ids.items ++ births_at (drop l.place-index (map place_of l.places)) ≡ births_at (map place_of l.places)
