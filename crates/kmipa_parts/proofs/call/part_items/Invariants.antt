use Rattle.std.proofs.Common.{◌≤◌, ◌-◌, length, map}
use Rattle.kmipa_msgs.specs.Messages.{answer_of, ask_of, lent, maybe_lent}
use Rattle.kmipa_parts.specs.Making.{MadeSoFar}
use Rattle.kmipa_parts.specs.Parts.{is_among}
use Rattle.kmipa_parts.proofs.call.part_items.Given as goal

abbrev pub invariant-items : goal.invariant-items
invariant-items l =
    (l.place ≤ length l.asks) × (l.place ≤ length l.answers)
    × MadeSoFar (is_among (map lent l.ids)) (map ask_of l.asks) (map answer_of l.answers) l.place (maybe_lent l.held) (map ask_of l.parts.items) (map answer_of l.shown.items)

abbrev pub decreases-items : goal.decreases-items
decreases-items l = length l.answers - l.place
