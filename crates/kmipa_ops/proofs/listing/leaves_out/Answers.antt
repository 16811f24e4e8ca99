use Rattle.std.proofs.Common.{◌≤◌, length, subst, arith}
use Rattle.kmipa_attrs.specs.Filters.{filter_of}
use Rattle.kmipa_ops.specs.Listing.{IsMissing}
use Rattle.kmipa_ops.proofs.ListingLemmas.{loose_leaves, scan_end, scan_more, scan_past}
use Rattle.kmipa_ops.proofs.listing.leaves_out.Goals as goal

pub returns-then-filter : goal.returns-then-filter
returns-then-filter g c =
    loose_leaves (g.L.Ledger.state c.args.ledger.now).now.objects (g.L.Ledger.moment c.args.ledger.now) (filter_of c.args.filter.now) c.args.places.now c.if-filter.true

pub returns-in_default : goal.returns-in_default
returns-in_default g c =
    scan_end (g.L.Ledger.state c.args.ledger.now).now.objects (g.L.Ledger.moment c.args.ledger.now) (filter_of c.args.filter.now) c.args.places.now c.scan.from c.scan.invariant c.in_default.ensures.next

pub scan-preserved : goal.scan-preserved
scan-preserved g c =
    scan_more (g.L.Ledger.state c.args.ledger.now).now.objects (g.L.Ledger.moment c.args.ledger.now) (filter_of c.args.filter.now) c.args.places.now c.scan.from c.scan.invariant c.in-Some.place c.in-Some.ensures.next
    (subst (IsMissing (g.L.Ledger.state c.args.ledger.now).now.objects (g.L.Ledger.moment c.args.ledger.now) (filter_of c.args.filter.now) c.args.places.now c.in-Some.place) c.if-is_missing.false c.is_missing.ensures)

pub returns : goal.returns
returns g c =
    let hs = (g.L.Ledger.state c.args.ledger.now).now.objects in
    let past : length hs ≤ c.scan.from = omega (arith, c.len-end.ensures, c.scan-test.false) in
    scan_past hs (g.L.Ledger.moment c.args.ledger.now) (filter_of c.args.filter.now) c.args.places.now c.scan.from c.scan.invariant past
