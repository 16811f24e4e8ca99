use Rattle.std.proofs.Common.{◌≡◌, drop, map}
use Rattle.kmipa_msgs.specs.Messages.{lent}
use Rattle.kmipa_aside.specs.Sights.{owned_of}
use Rattle.kmipa_trail.specs.Owners.{owners_with}
use Rattle.kmipa_trail.proofs.owners.own_each.Given as goal

abbrev pub invariant-loop-id : goal.invariant-loop-id
invariant-loop-id l = owners_with l.me (map owned_of l.owners.items) (drop l.id-index (map lent l.ids)) ≡ owners_with l.me (map owned_of l.initial.owners.items) (map lent l.ids)
