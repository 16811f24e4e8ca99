use Rattle.std.proofs.Common.{◌∙◌, sym, map}
use Rattle.kmipa_ops.specs.Listing.{is_among}
use Rattle.kmipa_attrs.specs.Filters.{filter_of}
use Rattle.kmipa_store.specs.Ledger.{cards_of}
use Rattle.kmipa_msgs.specs.Messages.{lent}
use Rattle.kmipa_ops.proofs.TestLemmas.{not_false, not_true}
use Rattle.kmipa_ops.proofs.ListingLemmas.{mapped_at, wrong_misfit, wrong_repeat, placed_more}
use Rattle.kmipa_ops.proofs.listing.places_listed.Goals as goal

pub returns-in_default : goal.returns-in_default
returns-in_default g c =
    let cs = cards_of (g.L.Ledger.state c.args.ledger.now).now.objects in
    let t = g.L.Ledger.moment c.args.ledger.now in
    let q = filter_of c.args.filter.now in
    wrong_misfit cs t q (map lent c.args.listed.now) c.loop-id.id-index _ (mapped_at lent c.args.listed.now c.loop-id.id-index _ c.loop-id-test.true)
    c.in_default.ensures

pub returns-then-not-is_new : goal.returns-then-not-is_new
returns-then-not-is_new g c =
    let cs = cards_of (g.L.Ledger.state c.args.ledger.now).now.objects in
    let t = g.L.Ledger.moment c.args.ledger.now in
    let q = filter_of c.args.filter.now in
    wrong_repeat cs t q (map lent c.args.listed.now) c.loop-id.id-index _ c.in-Some.place c.loop-id.places (mapped_at lent c.args.listed.now c.loop-id.id-index _ c.loop-id-test.true) c.loop-id.invariant
    c.in-Some.ensures
    (not_false (is_among c.loop-id.places c.in-Some.place) (sym c.in_ok-is_new.ensures.new ∙ c.if-not-is_new.true))

pub loop-id-preserved : goal.loop-id-preserved
loop-id-preserved g c =
    let cs = cards_of (g.L.Ledger.state c.args.ledger.now).now.objects in
    let t = g.L.Ledger.moment c.args.ledger.now in
    let q = filter_of c.args.filter.now in
    placed_more cs t q (map lent c.args.listed.now) c.loop-id.id-index _ c.in-Some.place c.loop-id.places c.add.new.self
    (mapped_at lent c.args.listed.now c.loop-id.id-index _ c.loop-id-test.true) c.loop-id.invariant
    c.in-Some.ensures
    (not_true (is_among c.loop-id.places c.in-Some.place) (sym c.in_ok-is_new.ensures.new ∙ c.if-not-is_new.false)) c.in_ok-is_new.ensures.added
