use Rattle.std.proofs.Common.{Vec, Option, Some, subst}
use Rattle.std.specs.Prelude.{IfSome}
use Rattle.std.specs.declared.alloc.Global.{Global}
use Rattle.kmipa_orders.specs.Ends.{Shared, AreAlike, stills_shared}
use Rattle.kmipa_orders.specs.Stills.{stills}
use Rattle.kmipa_orders.proofs.NotedLemmas.{noted}
use Rattle.kmipa_orders.proofs.ends.Ends.keep_objects.Goals as goal

pub returns-in-Some : goal.returns-in-Some
returns-in-Some g c = λ places s.
    let m = (g.L.Ledger.state c.args.ledger.now).now in
    let P : Option (Vec Shared Global) → Type 0 = λ o. IfSome o (λ v. AreAlike c.args.front (stills_shared v.items) (stills m)) in
    noted (Some c.args.front) c.args.self.now.ends.items c.add.new.self.ends.items c.args.set c.in-Some.objects places m c.add.ensures s (subst P c.in-Some.is c.in_ok-objects.ensures)
