use Rattle.std.proofs.Common.{ℕ, Option, None, sym, subst}
use Rattle.kmipa_orders.specs.Ends.{IsNoted}
use Rattle.kmipa_orders.proofs.NotedLemmas.{noted}
use Rattle.kmipa_orders.proofs.ends.Ends.keep.Goals as goal

pub returns-in-Some : goal.returns-in-Some
returns-in-Some g c = λ places s.
    let m = (g.L.Ledger.state c.args.ledger.now).now in
    let P : Option ℕ → Type 0 = λ o. IsNoted o c.args.self.now.ends.items places m c.keep_objects.new.self.ends.items in
    subst P (sym c.in-Some.is) (c.keep_objects.ensures places s)

pub returns-in-None : goal.returns-in-None
returns-in-None g c = λ places s.
    let m = (g.L.Ledger.state c.args.ledger.now).now in
    let P : Option ℕ → Type 0 = λ o. IsNoted o c.args.self.now.ends.items places m c.add.new.self.ends.items in
    subst P (sym c.in-None.is) (noted None c.args.self.now.ends.items c.add.new.self.ends.items c.args.set c.new.result places m c.add.ensures s tt)
