use Rattle.std.proofs.Common.{◌≤◌, None, Some, length, arith}
use Rattle.kmipa_attrs.specs.Filters.{filter_of}
use Rattle.kmipa_store.specs.Queries.{lasting}
use Rattle.kmipa_ops.proofs.AheadLemmas.{ahead_end, having_candidate}
use Rattle.kmipa_ops.proofs.listing.next_ahead.Goals as goal

pub returns-then-place-len-clause-next : goal.returns-then-place-len-clause-next
returns-then-place-len-clause-next g c =
    let hs = (g.L.Ledger.state c.args.ledger.now).now.objects in
    let t = g.L.Ledger.moment c.args.ledger.now in
    let q = filter_of c.args.filter.now in
    let past : length hs ≤ c.ahead-place.result = let h = c.if-place-len.true in let e = c.len.ensures in omega (arith, h, e) in
    having_candidate hs t q c.args.from None (ahead_end hs (lasting q) c.args.from c.ahead-place.result c.ahead-place.ensures past)

pub returns-clause-next : goal.returns-clause-next
returns-clause-next g c =
    having_candidate (g.L.Ledger.state c.args.ledger.now).now.objects (g.L.Ledger.moment c.args.ledger.now) (filter_of c.args.filter.now) c.args.from (Some c.ahead-place.result) c.ahead-place.ensures
