use Rattle.std.proofs.Common.{map, refl, arith}
use Rattle.kmipa_orders.specs.Candidates.{candidate_step}
use Rattle.kmipa_orders.proofs.ReachedLemmas.{taken_long, taken_reached}
use Rattle.kmipa_orders.proofs.reaching.reach.Goals as goal

pub returns-clause-tells : goal.returns-clause-tells
returns-clause-tells g c = λ declared is begun known.
    let calls = map candidate_step c.args.calls.now in
    let m = (g.L.Ledger.state c.take_along.new.ledger).now in
    let numbers = c.in_ok-taken.taken in
    let a = c.in_ok-taken.ensures.taken declared is begun known c.in_ok-remaining.ensures in
    let long = taken_long declared calls c.take_along.new.remaining m numbers.items a in
    taken_reached declared calls c.take_along.new.remaining m numbers.items a (record { taken = numbers; next = c.in_ok-next.next }) refl c.in_ok-taken.ensures.sound
    (c.in_ok-next.ensures.told declared a.taken is begun a.remaining a.known (omega (arith, c.len.ensures, numbers.ok.0, long)))
