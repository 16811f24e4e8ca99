use Rattle.std.proofs.Common.{map, take, length, ◌-◌, ◌≤◌}
use Rattle.kmipa_check.specs.Calls.{call_of}
use Rattle.kmipa_msgs.specs.Messages.{lent}
use Rattle.kmipa_parts.specs.Parts.{is_among}
use Rattle.kmipa_orders.specs.ByObject.{AreCallParts, part_step}
use Rattle.kmipa_orders.proofs.by_object.parts_on.Given as goal

abbrev pub invariant-calls : goal.invariant-calls
invariant-calls l = (l.at ≤ length l.calls) × AreCallParts (is_among (map lent l.ids)) (map call_of (take l.at l.calls)) (map part_step l.parts.items)

abbrev pub decreases-calls : goal.decreases-calls
decreases-calls l = length l.calls - l.at
