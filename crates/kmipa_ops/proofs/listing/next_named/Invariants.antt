use Rattle.std.proofs.Common.{◌<◌, length, Some}
use Rattle.kmipa_attrs.specs.Filters.{filter_of}
use Rattle.kmipa_store.specs.Queries.{lasting}
use Rattle.kmipa_ops.specs.Listing.{NextHaving}
use Rattle.kmipa_ops.proofs.listing.next_named.Given as goal

abbrev pub invariant-names : goal.invariant-names
invariant-names g l =
    let hs = (g.L.Ledger.state l.ledger).now.objects in
    NextHaving hs (lasting (filter_of l.filter)) l.from (Some l.place) × (l.place < length hs)
