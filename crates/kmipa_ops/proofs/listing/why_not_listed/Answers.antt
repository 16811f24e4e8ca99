use Rattle.std.proofs.Common.{◌∙◌, ap, sym, subst, map, true, false, Option}
use Rattle.std.proofs.lemmas.List.{length-map}
use Rattle.kmipa_ops.specs.declared.places_listed.PlacesListed.{PlacesListed}
use Rattle.kmipa_attrs.specs.Filters.{filter_of}
use Rattle.kmipa_store.specs.Ledger.{cards_of}
use Rattle.kmipa_msgs.specs.Messages.{lent}
use Rattle.kmipa_ops.specs.Listing.{LeavesOut, Placed}
use Rattle.kmipa_ops.specs.Locate.{is_over, is_full}
use Rattle.kmipa_ops.proofs.ListingLemmas.{why_few, few_if, few_not}
use Rattle.kmipa_ops.proofs.listing.why_not_listed.Goals as goal

pub returns-then-leaves_out : goal.returns-then-leaves_out
returns-then-leaves_out g c =
    let m = (g.L.Ledger.state c.args.ledger.now).now in
    let t = g.L.Ledger.moment c.args.ledger.now in
    let q = filter_of c.args.filter.now in
    let ids = map lent c.args.listed.now in
    let placed = subst (λ (o : Option PlacesListed). Placed (cards_of m.objects) t q ids o) c.in-Some.is c.in_ok-found.ensures in
    why_few (cards_of m.objects) t q ids c.in-Some.places true
    (ap (is_over q.maximum) (length-map c.args.listed.now lent) ∙ sym c.is_over.ensures ∙ c.if-is_over.false) placed
    (ap (is_full q.maximum) (length-map c.args.listed.now lent) ∙ sym c.is_full.ensures ∙ c.if-is_full.false)
    (few_if m t q ids c.in-Some.places c.requires placed (subst (LeavesOut m.objects t q c.in-Some.places) c.if-leaves_out.true c.leaves_out.ensures))

pub returns : goal.returns
returns g c =
    let m = (g.L.Ledger.state c.args.ledger.now).now in
    let t = g.L.Ledger.moment c.args.ledger.now in
    let q = filter_of c.args.filter.now in
    let ids = map lent c.args.listed.now in
    let placed = subst (λ (o : Option PlacesListed). Placed (cards_of m.objects) t q ids o) c.in-Some.is c.in_ok-found.ensures in
    why_few (cards_of m.objects) t q ids c.in-Some.places false
    (ap (is_over q.maximum) (length-map c.args.listed.now lent) ∙ sym c.is_over.ensures ∙ c.if-is_over.false) placed
    (ap (is_full q.maximum) (length-map c.args.listed.now lent) ∙ sym c.is_full.ensures ∙ c.if-is_full.false)
    (few_not m t q ids c.in-Some.places c.requires placed (subst (LeavesOut m.objects t q c.in-Some.places) c.if-leaves_out.false c.leaves_out.ensures))
