use Rattle.std.proofs.Common.{◌≤◌, ◌-◌, length, map}
use Rattle.kmipa_msgs.specs.Messages.{lent, maybe_lent, request_of, response_of}
use Rattle.kmipa_parts.specs.Making.{LeftSoFar}
use Rattle.kmipa_parts.specs.Parts.{is_among}
use Rattle.kmipa_parts.proofs.call.leave_be.Given as goal

abbrev pub invariant-items : goal.invariant-items
invariant-items l =
    (l.place ≤ length (request_of l.request).items) × (l.place ≤ length (response_of l.response).items)
    × LeftSoFar (is_among (map lent l.ids)) (request_of l.request).items (response_of l.response).items l.place (maybe_lent l.held)

abbrev pub decreases-items : goal.decreases-items
decreases-items l = length (response_of l.response).items - l.place
