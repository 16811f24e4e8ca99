use Rattle.std.proofs.Common.{◌-◌, None, length, map}
use Rattle.std.specs.Prelude.{drop}
use Rattle.kmipa_msgs.specs.Messages.{answer_of, ask_of, maybe_lent}
use Rattle.kmipa_orders.specs.Unheld.{IsUnheldAmong}
use Rattle.kmipa_orders.proofs.unheld.is_unheld_call.Given as goal

abbrev pub invariant-places : goal.invariant-places
invariant-places l =
    IsUnheldAmong (maybe_lent l.held) (drop l.place (map ask_of l.request.items.items)) (drop l.place (map answer_of l.response.items.items))
    → IsUnheldAmong None (map ask_of l.request.items.items) (map answer_of l.response.items.items)

abbrev pub decreases-places : goal.decreases-places
decreases-places l = length l.request.items.items - l.place
