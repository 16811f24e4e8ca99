-- crates/kmipa_ops/proofs/listing/next_in_state/Answers.antt
use Rattle.std.proofs.Common.{◌<◌, ◌∙◌, sym, arith}
use Rattle.std.proofs.lemmas.Bool.Decides.{nat_tests}
use Rattle.kmipa_attrs.specs.Filters.{filter_of}
use Rattle.kmipa_store.specs.declared.feature.Feature.TheVariants.{State as InState}
use Rattle.kmipa_ops.proofs.CandidateLemmas.{above, candidate_none, candidate_with, none_destroyed, wants_state}
use Rattle.kmipa_ops.proofs.ListingLemmas.{any_next}
use Rattle.kmipa_ops.proofs.listing.next_in_state.Goals as goal

pub returns-in_default-clause-next : goal.returns-in_default-clause-next
returns-in_default-clause-next g c =
    any_next (g.L.Ledger.state c.args.ledger.now).now.objects (g.L.Ledger.moment c.args.ledger.now) (filter_of c.args.filter.now) c.args.from

pub returns-then-is_of_none_live-clause-next : goal.returns-then-is_of_none_live-clause-next
returns-then-is_of_none_live-clause-next g c =
    let hs = (g.L.Ledger.state c.args.ledger.now).now.objects in
    let t = g.L.Ledger.moment c.args.ledger.now in
    let q = filter_of c.args.filter.now in
    let n = c.in-Some.number in
    candidate_none hs t q c.args.from (none_destroyed q t n (above 4 n (sym c.is_of_none_live.ensures ∙ c.if-is_of_none_live.true)) c.in-Some.is)

pub returns-clause-next : goal.returns-clause-next
returns-clause-next g c =
    let hs = (g.L.Ledger.state c.args.ledger.now).now.objects in
    let t = g.L.Ledger.moment c.args.ledger.now in
    let q = filter_of c.args.filter.now in
    let n = c.in-Some.number in
    candidate_with hs t q (InState n) c.args.from c.next_with.result (wants_state q t n c.in-Some.is) c.next_with.ensures.place
