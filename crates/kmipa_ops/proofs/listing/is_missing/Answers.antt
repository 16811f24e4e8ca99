use Rattle.std.proofs.Common.{◌∙◌, refl, subst, sym}
use Rattle.kmipa_attrs.specs.Filters.{filter_of}
use Rattle.kmipa_ops.specs.Listing.{FitsAt}
use Rattle.kmipa_ops.specs.declared.fit.Fit.{Fit}
use Rattle.kmipa_ops.specs.declared.fit.Fit.TheVariants as fit
use Rattle.kmipa_ops.proofs.ListingLemmas.{missing_if, missing_not}
use Rattle.kmipa_ops.proofs.listing.is_missing.Goals as goal

pub returns-then-has : goal.returns-then-has
returns-then-has g c = λ h at must. sym c.has.ensures ∙ c.if-has.true

pub returns-in-Must : goal.returns-in-Must
returns-in-Must g c =
    let hs = (g.L.Ledger.state c.args.ledger.now).now.objects in
    let t = g.L.Ledger.moment c.args.ledger.now in
    let q = filter_of c.args.filter.now in
    missing_if hs t q c.args.places.now c.args.place fit.Must (subst (λ (f : Fit). FitsAt hs t q c.args.place f) c.in-Must.is c.fit_at.ensures) refl (sym c.has.ensures ∙ c.if-has.false)

pub returns-in-May : goal.returns-in-May
returns-in-May g c =
    missing_not (g.L.Ledger.state c.args.ledger.now).now.objects (g.L.Ledger.moment c.args.ledger.now) (filter_of c.args.filter.now) c.args.places.now c.args.place fit.May (subst (λ (f : Fit). FitsAt (g.L.Ledger.state c.args.ledger.now).now.objects (g.L.Ledger.moment c.args.ledger.now) (filter_of c.args.filter.now) c.args.place f) c.in-May.is c.fit_at.ensures) (λ e. cc)

pub returns-in-Not : goal.returns-in-Not
returns-in-Not g c =
    missing_not (g.L.Ledger.state c.args.ledger.now).now.objects (g.L.Ledger.moment c.args.ledger.now) (filter_of c.args.filter.now) c.args.places.now c.args.place fit.Not (subst (λ (f : Fit). FitsAt (g.L.Ledger.state c.args.ledger.now).now.objects (g.L.Ledger.moment c.args.ledger.now) (filter_of c.args.filter.now) c.args.place f) c.in-Not.is c.fit_at.ensures) (λ e. cc)
