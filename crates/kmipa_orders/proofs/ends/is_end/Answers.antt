use Rattle.std.proofs.Common.{ℕ, List, Option, sym, ap, subst}
use Rattle.kmipa_orders.specs.Ends.{StandAmong, StandAmongFrom, stills_shared}
use Rattle.kmipa_orders.specs.Stills.{StillOf, stills}
use Rattle.kmipa_orders.proofs.ends.is_end.Goals as goal

pub returns-in-Some : goal.returns-in-Some
returns-in-Some g c = λ all places flagged long t.
    let m = (g.L.Ledger.state c.args.ledger.now).now in
    let P : List StillOf → Type 0 = λ xs. StandAmong c.in-Some.front xs (stills m) in
    let Q : Option ℕ → Type 0 = λ o. StandAmongFrom o (stills_shared c.args.end.now.objects.items) (stills m) in
    record { set = c.are.ensures all places flagged long c.if-not-are.false; stands = subst Q (sym c.in-Some.is) (subst P (ap stills_shared c.deref.ensures.value) (c.stand_so.ensures t)) }

pub returns-in-None : goal.returns-in-None
returns-in-None g c = λ all places flagged long t.
    let m = (g.L.Ledger.state c.args.ledger.now).now in
    let Q : Option ℕ → Type 0 = λ o. StandAmongFrom o (stills_shared c.args.end.now.objects.items) (stills m) in
    record { set = c.are.ensures all places flagged long c.if-not-are.false; stands = subst Q (sym c.in-None.is) tt }
