use Rattle.std.proofs.Common.{◌≡◌, None, Some, subst, sym, rules}
use Rattle.kmipa_attrs.specs.Filters.{filter_of}
use Rattle.kmipa_store.specs.Queries.{lasting}
use Rattle.kmipa_ops.specs.Listing.{NextHaving}
use Rattle.kmipa_ops.proofs.AheadLemmas.{having_on}
use Rattle.kmipa_ops.proofs.listing.next_featured.Goals as goal

pub returns-in_err-coded-clause-next : goal.returns-in_err-coded-clause-next
returns-in_err-coded-clause-next g c =
    let hs = (g.L.Ledger.state c.args.ledger.now).now.objects in
    let asked = lasting (filter_of c.args.filter.now) in
    let e : c.from_residual-in_err-coded.result ≡ None = search rules in
    subst (NextHaving hs asked c.args.from) (sym e) (having_on hs asked c.args.from c.in_ok-typed.typed None c.in_ok-typed.ensures.next c.in_err-coded.ensures.next)

pub returns-clause-next : goal.returns-clause-next
returns-clause-next g c =
    let hs = (g.L.Ledger.state c.args.ledger.now).now.objects in
    let asked = lasting (filter_of c.args.filter.now) in
    let two = having_on hs asked c.args.from c.in_ok-typed.typed (Some c.in_ok-coded.coded) c.in_ok-typed.ensures.next c.in_ok-coded.ensures.next in
    having_on hs asked c.args.from c.in_ok-coded.coded c.next_of_length.result two c.next_of_length.ensures.next
