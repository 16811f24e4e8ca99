use Rattle.std.proofs.Common.{◌-◌, length}
use Rattle.kmipa_msgs.specs.Messages.{request_of, response_of}
use Rattle.kmipa_check.specs.Ordering.{NoneWantedBelow}
use Rattle.kmipa_check.proofs.filling.needs_fill.Given as goal

abbrev pub invariant-items : goal.invariant-items
invariant-items l = NoneWantedBelow (request_of l.request) (response_of l.response) l.place

abbrev pub decreases-items : goal.decreases-items
decreases-items l = length l.request.items.items - l.place
