use Rattle.std.proofs.Common.{map}
use Rattle.kmipa_msgs.specs.Messages.{maybe_lent}
use Rattle.kmipa_passed.specs.Leaving.{held_of}
use Rattle.kmipa_batch.specs.Orders.{order_given}
use Rattle.kmipa_batch.specs.Running.{places_of}
use Rattle.kmipa_aside.specs.Sights.{sight_of}
use Rattle.kmipa_places.specs.Places.{place_of}
use Rattle.kmipa_bundle.specs.Counts.{counts_of}
use Rattle.kmipa_bundle.proofs.RunLemmas.{Along}
use Rattle.kmipa_bundle.proofs.along.take_along.Given as goal

abbrev pub invariant-loop-position : goal.invariant-loop-position
invariant-loop-position g l = Along (sight_of l.fn.sight) l.call.stamp (g.L.Ledger.state l.fn.ledger) (map place_of l.call.places.items) (places_of (order_given (maybe_lent l.fn.places)) l.fn.count) l.position (g.L.Ledger.state l.ledger) (held_of l.progress.held) (counts_of l.progress.counts)
