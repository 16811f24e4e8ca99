use Rattle.std.proofs.Common.{inr}
use Rattle.kmipa_orders.proofs.ends.Ends.arrive.Goals as goal

pub returns-then-has : goal.returns-then-has
returns-then-has g c = λ all places flagged long. inr (c.all.ensures, c.has.ensures all places flagged long c.if-has.true)
