use Rattle.std.proofs.Common.{◌<◌, ◌≤◌, None, Some, length, arith}
use Rattle.kmipa_attrs.specs.Filters.{filter_of}
use Rattle.kmipa_store.specs.Queries.{lasting}
use Rattle.kmipa_ops.proofs.AheadLemmas.{having_none, having_on}
use Rattle.kmipa_ops.proofs.listing.next_having.Goals as goal

pub returns-in_default : goal.returns-in_default
returns-in_default g c =
    let hs = (g.L.Ledger.state c.args.ledger.now).now.objects in
    let asked = lasting (filter_of c.args.filter.now) in
    let le : c.args.from ≤ c.len.result = let r : c.args.from < length hs = c.requires in let e = c.len.ensures in omega (arith, r, e) in
    having_none hs asked c.args.from c.len.result c.in_default.ensures.next le

pub returns-in-Some-next_featured : goal.returns-in-Some-next_featured
returns-in-Some-next_featured g c =
    let hs = (g.L.Ledger.state c.args.ledger.now).now.objects in
    let asked = lasting (filter_of c.args.filter.now) in
    having_on hs asked c.args.from c.in-Some.named (Some c.in-Some-next_featured.place) c.in-Some.ensures.next c.in-Some-next_featured.ensures.next

pub returns-in-None : goal.returns-in-None
returns-in-None g c =
    let hs = (g.L.Ledger.state c.args.ledger.now).now.objects in
    let asked = lasting (filter_of c.args.filter.now) in
    let le : c.args.from ≤ c.len-in-None.result = let r : c.args.from < length hs = c.requires in let e = c.len-in-None.ensures in omega (arith, r, e) in
    having_none hs asked c.args.from c.len-in-None.result (having_on hs asked c.args.from c.in-Some.named None c.in-Some.ensures.next c.in-None.ensures.next) le
