use Rattle.std.proofs.Common.{sym, refl, subst}
use Rattle.kmipa_attrs.specs.Filters.{filter_of}
use Rattle.kmipa_ops.specs.Listing.{FitsAt}
use Rattle.kmipa_ops.specs.declared.fit.Fit.{Fit}
use Rattle.kmipa_ops.specs.declared.fit.Fit.TheVariants as fit
use Rattle.kmipa_ops.proofs.ListingLemmas.{listed_if, listed_not}
use Rattle.kmipa_ops.proofs.listing.place_listed.Goals as goal

pub returns-in-Must : goal.returns-in-Must
returns-in-Must g c =
    listed_if (g.L.Ledger.state c.args.ledger.now).now.objects (g.L.Ledger.moment c.args.ledger.now) (filter_of c.args.filter.now) c.args.id.now c.in_ok-place.place fit.Must (sym c.in_ok-place.ensures.place) (subst (λ (f : Fit). FitsAt (g.L.Ledger.state c.args.ledger.now).now.objects (g.L.Ledger.moment c.args.ledger.now) (filter_of c.args.filter.now) c.in_ok-place.place f) c.in-Must.is c.fit_at.ensures) refl

pub returns-in-May : goal.returns-in-May
returns-in-May g c =
    listed_if (g.L.Ledger.state c.args.ledger.now).now.objects (g.L.Ledger.moment c.args.ledger.now) (filter_of c.args.filter.now) c.args.id.now c.in_ok-place.place fit.May (sym c.in_ok-place.ensures.place) (subst (λ (f : Fit). FitsAt (g.L.Ledger.state c.args.ledger.now).now.objects (g.L.Ledger.moment c.args.ledger.now) (filter_of c.args.filter.now) c.in_ok-place.place f) c.in-May.is c.fit_at.ensures) refl

pub returns-in-Not : goal.returns-in-Not
returns-in-Not g c =
    listed_not (g.L.Ledger.state c.args.ledger.now).now.objects (g.L.Ledger.moment c.args.ledger.now) (filter_of c.args.filter.now) c.args.id.now c.in_ok-place.place fit.Not (sym c.in_ok-place.ensures.place) (subst (λ (f : Fit). FitsAt (g.L.Ledger.state c.args.ledger.now).now.objects (g.L.Ledger.moment c.args.ledger.now) (filter_of c.args.filter.now) c.in_ok-place.place f) c.in-Not.is c.fit_at.ensures) refl
