use Rattle.std.proofs.Common.{length, ◌-◌}
use Rattle.kmipa_attrs.specs.Filters.{filter_of}
use Rattle.kmipa_ops.specs.Listing.{CoveredTo}
use Rattle.kmipa_ops.proofs.listing.leaves_out.Given as goal

abbrev pub invariant-scan : goal.invariant-scan
invariant-scan g l = CoveredTo (g.L.Ledger.state l.ledger).now.objects (g.L.Ledger.moment l.ledger) (filter_of l.filter) l.places l.from

abbrev pub decreases-scan : goal.decreases-scan
decreases-scan g l = length (g.L.Ledger.state l.ledger).now.objects - l.from
