use Rattle.kmipa_attrs.specs.Filters.{filter_of}
use Rattle.kmipa_store.specs.Queries.{has_feature, lasting}
use Rattle.kmipa_store.specs.declared.feature.Feature.TheVariants.{Kind}
use Rattle.kmipa_ops.proofs.AheadLemmas.{any_having, having_by, lacks_type}
use Rattle.kmipa_ops.proofs.listing.next_of_type.Goals as goal

pub returns-in-Some-clause-next : goal.returns-in-Some-clause-next
returns-in-Some-clause-next g c =
    let hs = (g.L.Ledger.state c.args.ledger.now).now.objects in
    let t = g.L.Ledger.moment c.args.ledger.now in
    let q = filter_of c.args.filter.now in
    let n = c.in-Some.number in
    having_by hs (lasting q) (has_feature (Kind n) t) c.args.from c.next_with.result (λ h. lacks_type q h n t c.in-Some.is) c.next_with.ensures.place

pub returns-in-None-clause-next : goal.returns-in-None-clause-next
returns-in-None-clause-next g c = any_having (g.L.Ledger.state c.args.ledger.now).now.objects (lasting (filter_of c.args.filter.now)) c.args.from
