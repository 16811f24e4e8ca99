use Rattle.std.proofs.Common.{◌≡◌, ◌∙◌, ap, sym, map, slice_get, List, ℕ, Some, None}
use Rattle.kmipa_attrs.specs.Sets.{name_of}
use Rattle.kmipa_attrs.specs.Filters.{filter_of}
use Rattle.kmipa_attrs.specs.declared.name.Name.{Name}
use Rattle.kmipa_store.specs.Queries.{has_name, lasting, next_named}
use Rattle.kmipa_ops.proofs.AheadLemmas.{having_by, having_on, lacks_named}
use Rattle.kmipa_ops.proofs.ListingLemmas.{mapped_at}
use Rattle.kmipa_ops.proofs.listing.next_named.Goals as goal

pub returns-in_default-clause-next : goal.returns-in_default-clause-next
returns-in_default-clause-next g c =
    let hs = (g.L.Ledger.state c.args.ledger.now).now.objects in
    let q = filter_of c.args.filter.now in
    let n = name_of c.name-item.result in
    let asked : slice_get q.names c.names.name-index ≡ Some n
    = ap (λ (xs : List Name). slice_get (map name_of xs) c.names.name-index) (sym c.as_slice-names.ensures)
    ∙ mapped_at name_of c.as_slice-names.result.now c.names.name-index c.name-item.result c.names-test.true
    ∙ ap (λ (m : Name). Some (name_of m)) (sym c.name-item.is) in
    let next : next_named n.value c.name-item.result.kind c.names.place hs ≡ None
    = ap (λ (v : List ℕ). next_named v c.name-item.result.kind c.names.place hs) (sym c.as_str.ensures.value) ∙ sym c.in_default.ensures.place in
    having_on hs (lasting q) c.args.from c.names.place None c.names.invariant.0 (having_by hs (lasting q) (has_name n.value n.kind) c.names.place None (λ h. lacks_named q h n c.names.name-index asked) (sym next))

pub names-preserved : goal.names-preserved
names-preserved g c =
    let hs = (g.L.Ledger.state c.args.ledger.now).now.objects in
    let q = filter_of c.args.filter.now in
    let n = name_of c.name-item.result in
    let asked : slice_get q.names c.names.name-index ≡ Some n
    = ap (λ (xs : List Name). slice_get (map name_of xs) c.names.name-index) (sym c.as_slice-names.ensures)
    ∙ mapped_at name_of c.as_slice-names.result.now c.names.name-index c.name-item.result c.names-test.true
    ∙ ap (λ (m : Name). Some (name_of m)) (sym c.name-item.is) in
    let next : next_named n.value c.name-item.result.kind c.names.place hs ≡ Some c.in-Some.next
    = ap (λ (v : List ℕ). next_named v c.name-item.result.kind c.names.place hs) (sym c.as_str.ensures.value) ∙ sym c.in-Some.ensures.place in (
      having_on hs (lasting q) c.args.from c.names.place (Some c.in-Some.next) c.names.invariant.0
          (having_by hs (lasting q) (has_name n.value n.kind) c.names.place (Some c.in-Some.next) (λ h. lacks_named q h n c.names.name-index asked) (sym next)),
      c.in-Some.ensures.within,
    )
