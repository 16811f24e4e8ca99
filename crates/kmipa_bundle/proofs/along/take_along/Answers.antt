use Rattle.std.proofs.Common.{◌≡◌, ◌≤◌, ℕ, List, length, map, sym, subst, arith, Err}
use Rattle.kmipa_store.specs.Ledger.{LedgerState}
use Rattle.kmipa_msgs.specs.Messages.{maybe_lent}
use Rattle.kmipa_batch.specs.declared.refusal.CallRefusal.{CallRefusal}
use Rattle.kmipa_batch.specs.Orders.{order_given}
use Rattle.kmipa_batch.specs.Running.{places_of}
use Rattle.kmipa_batch.proofs.OrderLemmas.{order_at}
use Rattle.kmipa_aside.specs.Sights.{sight_of}
use Rattle.kmipa_places.specs.Places.{PlaceOf, place_of}
use Rattle.kmipa_bundle.specs.Running.{AlongTaken}
use Rattle.kmipa_bundle.proofs.RunLemmas.{along_ends, along_more, along_stops}
use Rattle.kmipa_bundle.proofs.along.take_along.Goals as goal

pub returns-in-Err : goal.returns-in-Err
returns-in-Err g c =
    let s : LedgerState = g.L.Ledger.state c.args.ledger.now in
    let v : LedgerState = g.L.Ledger.state c.go_there.new.ledger in
    let places : List PlaceOf = map place_of c.args.call.now.places.items in
    let order = places_of (order_given (maybe_lent c.args.places)) c.args.count in
    let P : CallRefusal → Type 0 = λ r. AlongTaken (sight_of c.args.sight) c.args.call.now.stamp s places order (Err r) v in
    subst P (sym c.reported_at.ensures)
    (along_stops (sight_of c.args.sight) c.args.call.now.stamp s places order
    c.loop-position.position (g.L.Ledger.state c.loop-position.ledger) c.loop-position.progress c.loop-position.invariant
    c.place_at-place.result (order_at (maybe_lent c.args.places) c.args.count c.loop-position.position c.place_at-place.result c.loop-position-test.true c.place_at-place.ensures.there)
    c.in-Err.refusal v c.in-Err.ensures)

pub loop-position-preserved : goal.loop-position-preserved
loop-position-preserved g c =
    along_more (sight_of c.args.sight) c.args.call.now.stamp (g.L.Ledger.state c.args.ledger.now) (map place_of c.args.call.now.places.items)
    (places_of (order_given (maybe_lent c.args.places)) c.args.count)
    c.loop-position.position (g.L.Ledger.state c.loop-position.ledger) c.loop-position.progress c.loop-position.invariant
    c.place_at-place.result (order_at (maybe_lent c.args.places) c.args.count c.loop-position.position c.place_at-place.result c.loop-position-test.true c.place_at-place.ensures.there)
    (g.L.Ledger.state c.go_there.new.ledger) c.in-Ok.after c.in-Ok.ensures

pub returns : goal.returns
returns g c =
    let order : List ℕ = places_of (order_given (maybe_lent c.args.places)) c.args.count in
    let past : c.args.count ≤ c.loop-position.position = c.loop-position-test.false in
    let all : length order ≡ c.args.count = c.requires.counted in
    along_ends (sight_of c.args.sight) c.args.call.now.stamp (g.L.Ledger.state c.args.ledger.now) (map place_of c.args.call.now.places.items) order
    c.loop-position.position (g.L.Ledger.state c.loop-position.ledger) c.loop-position.progress c.loop-position.invariant (omega (arith, past, all))
