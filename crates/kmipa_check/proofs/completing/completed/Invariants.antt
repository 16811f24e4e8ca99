use Rattle.std.proofs.Common.{◌-◌, length, map}
use Rattle.kmipa_msgs.specs.Messages.{ask_of, request_of}
use Rattle.kmipa_record.specs.Witnesses.{birth_of}
use Rattle.kmipa_check.specs.Bearing.{AreBornUpTo}
use Rattle.kmipa_check.specs.Grants.{grants_of}
use Rattle.kmipa_check.proofs.completing.completed.Given as goal

abbrev pub invariant-items : goal.invariant-items
invariant-items l = AreBornUpTo (grants_of l.grants) (request_of l.request).items (map birth_of l.births) l.place (map ask_of l.items.items)

abbrev pub decreases-items : goal.decreases-items
decreases-items l = length l.request.items.items - l.place
