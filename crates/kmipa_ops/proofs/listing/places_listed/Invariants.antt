use Rattle.std.proofs.Common.{take, map}
use Rattle.kmipa_attrs.specs.Filters.{filter_of}
use Rattle.kmipa_store.specs.Ledger.{cards_of}
use Rattle.kmipa_msgs.specs.Messages.{lent}
use Rattle.kmipa_ops.specs.Listing.{ArePlaced}
use Rattle.kmipa_ops.proofs.listing.places_listed.Given as goal

abbrev pub invariant-loop-id : goal.invariant-loop-id
invariant-loop-id g l = ArePlaced (cards_of (g.L.Ledger.state l.ledger).now.objects) (g.L.Ledger.moment l.ledger) (filter_of l.filter) (take l.id-index (map lent l.listed)) l.places
