-- crates/kmipa_ops/proofs/listing/next_candidate/Answers.antt
use Rattle.std.proofs.Common.{◌≡◌, None, Some, subst, sym, rules}
use Rattle.kmipa_attrs.specs.Filters.{filter_of}
use Rattle.kmipa_ops.specs.Listing.{NextCandidate}
use Rattle.kmipa_ops.proofs.AheadLemmas.{having_candidate}
use Rattle.kmipa_ops.proofs.CandidateLemmas.{candidate_on}
use Rattle.kmipa_ops.proofs.listing.next_candidate.Goals as goal

pub returns-in_err-stated-clause-next : goal.returns-in_err-stated-clause-next
returns-in_err-stated-clause-next g c =
    let hs = (g.L.Ledger.state c.args.ledger.now).now.objects in
    let t = g.L.Ledger.moment c.args.ledger.now in
    let q = filter_of c.args.filter.now in
    let from = c.args.from in
    let e : c.from_residual-in_err-stated.result ≡ None = search rules in
    subst (NextCandidate hs t q from) (sym e) (candidate_on hs t q from c.in_ok-bearer.bearer None c.in_ok-bearer.ensures.next c.in_err-stated.ensures.next)

pub returns-in_err-featured-clause-next : goal.returns-in_err-featured-clause-next
returns-in_err-featured-clause-next g c =
    let hs = (g.L.Ledger.state c.args.ledger.now).now.objects in
    let t = g.L.Ledger.moment c.args.ledger.now in
    let q = filter_of c.args.filter.now in
    let from = c.args.from in
    let two = candidate_on hs t q from c.in_ok-bearer.bearer (Some c.in_ok-stated.stated) c.in_ok-bearer.ensures.next c.in_ok-stated.ensures.next in
    let e : c.from_residual-in_err-featured.result ≡ None = search rules in
    subst (NextCandidate hs t q from) (sym e) (candidate_on hs t q from c.in_ok-stated.stated None two (having_candidate hs t q c.in_ok-stated.stated None c.in_err-featured.ensures.next))

pub returns-clause-next : goal.returns-clause-next
returns-clause-next g c =
    let hs = (g.L.Ledger.state c.args.ledger.now).now.objects in
    let t = g.L.Ledger.moment c.args.ledger.now in
    let q = filter_of c.args.filter.now in
    let from = c.args.from in
    let two = candidate_on hs t q from c.in_ok-bearer.bearer (Some c.in_ok-stated.stated) c.in_ok-bearer.ensures.next c.in_ok-stated.ensures.next in
    let three = candidate_on hs t q from c.in_ok-stated.stated (Some c.in_ok-featured.featured) two (having_candidate hs t q c.in_ok-stated.stated (Some c.in_ok-featured.featured) c.in_ok-featured.ensures.next) in
    candidate_on hs t q from c.in_ok-featured.featured c.next_ahead.result three c.next_ahead.ensures.next
