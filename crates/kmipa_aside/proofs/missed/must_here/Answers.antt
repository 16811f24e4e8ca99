use Rattle.std.specs.Int.{w64}
use Rattle.std.proofs.lemmas.Int.{to_z-of_z}
use Rattle.kmipa_attrs.specs.Filters.{filter_of}
use Rattle.kmipa_store.specs.Ledger.{held}
use Rattle.kmipa_ops.specs.declared.fit.Fit.TheVariants as fit
use Rattle.kmipa_aside.proofs.MissedLemmas.{must_found}
use Rattle.kmipa_aside.proofs.missed.must_here.Goals as goal

pub returns-in-Must : goal.returns-in-Must
returns-in-Must g c =
    must_found c.lists_are_decided.ensures (filter_of c.args.filter.now) (g.L.Ledger.state c.args.ledger.now).now.objects c.args.id.now c.in-Some.place c.find.result (held c.at-object.result.now) _ c.args.t c.state_at.result
    c.matches.result fit.Must c.find.ensures.place c.in-Some.is c.at-object.ensures (to_z-of_z w64 c.args.t c.ranges.t) c.state_at.ensures c.matches.ensures c.in-Must.is

pub returns-in-May : goal.returns-in-May
returns-in-May g c =
    must_found c.lists_are_decided.ensures (filter_of c.args.filter.now) (g.L.Ledger.state c.args.ledger.now).now.objects c.args.id.now c.in-Some.place c.find.result (held c.at-object.result.now) _ c.args.t c.state_at.result
    c.matches.result fit.May c.find.ensures.place c.in-Some.is c.at-object.ensures (to_z-of_z w64 c.args.t c.ranges.t) c.state_at.ensures c.matches.ensures c.in-May.is

pub returns-in-Not : goal.returns-in-Not
returns-in-Not g c =
    must_found c.lists_are_decided.ensures (filter_of c.args.filter.now) (g.L.Ledger.state c.args.ledger.now).now.objects c.args.id.now c.in-Some.place c.find.result (held c.at-object.result.now) _ c.args.t c.state_at.result
    c.matches.result fit.Not c.find.ensures.place c.in-Some.is c.at-object.ensures (to_z-of_z w64 c.args.t c.ranges.t) c.state_at.ensures c.matches.ensures c.in-Not.is
