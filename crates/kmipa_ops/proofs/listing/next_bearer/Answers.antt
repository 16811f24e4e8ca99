use Rattle.std.proofs.Common.{◌≡◌, ◌∙◌, ap, sym, map, slice_get, List, ℕ, Some, None}
use Rattle.kmipa_attrs.specs.Sets.{name_of}
use Rattle.kmipa_attrs.specs.Filters.{filter_of}
use Rattle.kmipa_attrs.specs.declared.name.Name.{Name}
use Rattle.kmipa_store.specs.Queries.{next_live_named}
use Rattle.kmipa_store.specs.declared.feature.Feature.TheVariants.{Live}
use Rattle.kmipa_ops.proofs.CandidateLemmas.{candidate_with, wants_live}
use Rattle.kmipa_ops.proofs.ListingLemmas.{mapped_at, narrow_more, narrow_none}
use Rattle.kmipa_ops.proofs.listing.next_bearer.Goals as goal

pub returns-then-is_empty-clause-next : goal.returns-then-is_empty-clause-next
returns-then-is_empty-clause-next g c =
    let t = g.L.Ledger.moment c.args.ledger.now in
    let q = filter_of c.args.filter.now in
    candidate_with (g.L.Ledger.state c.args.ledger.now).now.objects t q Live c.args.from c.next_with.result (wants_live q t) c.next_with.ensures.place

pub returns-in_default-clause-next : goal.returns-in_default-clause-next
returns-in_default-clause-next g c =
    let hs = (g.L.Ledger.state c.args.ledger.now).now.objects in
    let q = filter_of c.args.filter.now in
    let asked : slice_get q.names c.names.name-index ≡ Some (name_of c.name-item.result)
    = ap (λ (xs : List Name). slice_get (map name_of xs) c.names.name-index) (sym c.as_slice-names.ensures)
    ∙ mapped_at name_of c.as_slice-names.result.now c.names.name-index c.name-item.result c.names-test.true
    ∙ ap (λ (n : Name). Some (name_of n)) (sym c.name-item.is) in
    let next : next_live_named (name_of c.name-item.result).value c.name-item.result.kind c.names.place hs ≡ None
    = ap (λ (v : List ℕ). next_live_named v c.name-item.result.kind c.names.place hs) (sym c.as_str.ensures.value) ∙ sym c.in_default.ensures.place in
    narrow_none q (name_of c.name-item.result) c.names.name-index asked hs (g.L.Ledger.moment c.args.ledger.now) c.args.from c.names.place c.names.invariant.0 next

pub names-preserved : goal.names-preserved
names-preserved g c =
    let hs = (g.L.Ledger.state c.args.ledger.now).now.objects in
    let q = filter_of c.args.filter.now in
    let asked : slice_get q.names c.names.name-index ≡ Some (name_of c.name-item.result)
    = ap (λ (xs : List Name). slice_get (map name_of xs) c.names.name-index) (sym c.as_slice-names.ensures)
    ∙ mapped_at name_of c.as_slice-names.result.now c.names.name-index c.name-item.result c.names-test.true
    ∙ ap (λ (n : Name). Some (name_of n)) (sym c.name-item.is) in
    let next : next_live_named (name_of c.name-item.result).value c.name-item.result.kind c.names.place hs ≡ Some c.in-Some.next
    = ap (λ (v : List ℕ). next_live_named v c.name-item.result.kind c.names.place hs) (sym c.as_str.ensures.value) ∙ sym c.in-Some.ensures.place in (
      narrow_more q (name_of c.name-item.result) c.names.name-index asked hs (g.L.Ledger.moment c.args.ledger.now) c.args.from c.names.place c.names.invariant.0 c.in-Some.next next,
      c.in-Some.ensures.within,
    )
