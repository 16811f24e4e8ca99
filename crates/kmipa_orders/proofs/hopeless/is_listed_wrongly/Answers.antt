use Rattle.kmipa_orders.specs.Hopeless.{twice}
use Rattle.kmipa_orders.proofs.hopeless.is_listed_wrongly.Goals as goal

pub returns-in-Some : goal.returns-in-Some
returns-in-Some c = λ e.
    let o = c.are_one.ensures e in
    twice c.in-Some.first c.in-Some.second o.0 o.1 o.2 o.3
