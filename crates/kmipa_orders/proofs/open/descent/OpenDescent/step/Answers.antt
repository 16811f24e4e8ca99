use Rattle.std.proofs.Common.{◌+◌, refl, subst, Some, Ok, Option}
use Rattle.kmipa_orders.specs.Guessing.{GuessTried}
use Rattle.kmipa_orders.specs.declared.guessing.Taken.{Taken}
use Rattle.kmipa_orders.proofs.DescentLemmas.{descends_taken}
use Rattle.kmipa_orders.proofs.open.descent.OpenDescent.step.Goals as goal

pub returns-clause-moves : goal.returns-clause-moves
returns-clause-moves g c =
    let d = c.args.self.now in
    let u = g.L.Ledger.state c.args.ledger.now in
    let v = g.L.Ledger.state c.try_attempt.new.ledger in
    let Q : Option Taken → Type 0 = λ o. GuessTried u (Ok o) v in
    let e : GuessTried u (Ok (Some c.in-Some.taken)) v = subst Q c.in-Some.is c.in_ok-taken.ensures in
    descends_taken d u c.requires.descends (record d { steps = d.steps + 1 }) c.take.new.self c.in-Some.taken v refl refl refl c.in_ok-take.ensures e.0 e.1 e.2
